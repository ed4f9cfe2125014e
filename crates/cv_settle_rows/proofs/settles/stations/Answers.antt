use Rattle.cv_settle_rows.proofs.Played.{new_meshed}
use Rattle.cv_settle_rows.proofs.settles.stations.Goals as goal

pub returns : goal.returns
returns c =
    new_meshed c.args.items.now _ c.in_ok-stations.stations.items c.in_ok-stations.ensures
