use Rattle.std.proofs.Common.{◌≡◌, ◌++◌, drop}
use Rattle.std.specs.FinMap as map
use Rattle.cv_state.specs.Leaving.{joined_among}
use Rattle.cv_state.proofs.leaving.joined_hints.Given as goal

abbrev pub invariant-loop-place : goal.invariant-loop-place
invariant-loop-place l = l.joined ++ joined_among l.actor l.live.actor (drop l.place (map.entries l.hints.map)) ≡ joined_among l.actor l.live.actor (map.entries l.hints.map)
