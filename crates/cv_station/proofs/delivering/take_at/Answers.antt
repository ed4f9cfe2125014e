use Rattle.cv_station.proofs.Pushes.{takes_found}
use Rattle.cv_station.proofs.delivering.take_at.Goals as goal

pub returns : goal.returns
returns c =
    takes_found c.args.place c.take_from.result c.args.peers.now c.index-peers-place.result c.take_from.new.peer c.requires c.take_from.ensures
