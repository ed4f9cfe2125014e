use Rattle.std.proofs.Common.{[], ◌∷◌}
use Rattle.cv_station.proofs.Pushes.{number_at, pushes_found, pushes_none}
use Rattle.cv_station.proofs.pushing.push.Goals as goal

pub returns-then-frame-own : goal.returns-then-frame-own
returns-then-frame-own c = pushes_none (c.args.frame ∷ []) c.args.peers.now

pub returns-in_default : goal.returns-in_default
returns-in_default c = pushes_none (c.args.frame ∷ []) c.args.peers.now

pub push_to-requires : goal.push_to-requires
push_to-requires c =
    number_at c.args.peers.now c.in-Some.place c.index-peers-place.result c.args.frame.to c.in-Some.ensures.within c.in-Some.ensures.number

pub returns : goal.returns
returns c =
    pushes_found c.args.frame c.args.peers.now c.in-Some.place c.index-peers-place.result c.push_to.new.peer c.in-Some.ensures.within c.push_to.ensures
