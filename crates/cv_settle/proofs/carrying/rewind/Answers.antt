use Rattle.std.proofs.Common.{false}
use Rattle.cv_settle.proofs.Parts.{sweeps_none}
use Rattle.cv_settle.proofs.carrying.rewind.Goals as goal

pub returns-then-reader : goal.returns-then-reader
returns-then-reader c = sweeps_none false c.args.stations.now c.requires.meshed
