use Rattle.std.proofs.Common.{is_err}
use Rattle.cv_settle.proofs.Parts.{sweeps_at}
use Rattle.cv_settle.proofs.acting.deliver_at.Goals as goal

pub returns : goal.returns
returns c =
    sweeps_at (is_err c.deliver.result) c.args.stations.now c.args.at c.index-stations-at.result c.deliver.new.station c.requires.meshed c.requires.place c.deliver.ensures
