use Rattle.std.proofs.Common.{◌≡◌, map}
use Rattle.std.specs.List.{range_with_len}
use Rattle.cv_spread.specs.Placing.{home_node}
use Rattle.cv_spread.proofs.nodes.places.Given as goal

abbrev pub invariant-loop-actor : goal.invariant-loop-actor
invariant-loop-actor l = l.at.items ≡ map (home_node l.nodes) (range_with_len 0 l.actor)
