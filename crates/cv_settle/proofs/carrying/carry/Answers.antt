use Rattle.std.proofs.Common.{false}
use Rattle.cv_settle.proofs.Parts.{sweeps_none}
use Rattle.cv_settle.proofs.carrying.carry.Goals as goal

pub returns-in_default : goal.returns-in_default
returns-in_default c = sweeps_none false c.args.stations.now c.requires.meshed
