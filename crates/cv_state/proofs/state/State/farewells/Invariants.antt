use Rattle.std.proofs.Common.{◌≡◌, ◌++◌, drop}
use Rattle.std.specs.FinMap as map
use Rattle.cv_state.specs.Destroying.{farewells}
use Rattle.cv_state.proofs.state.State.farewells.Given as goal

abbrev pub invariant-loop-place : goal.invariant-loop-place
invariant-loop-place l = l.frames ++ farewells l.self l.app (drop l.place (map.keys l.self.known.nodes)) ≡ farewells l.self l.app (map.keys l.self.known.nodes)
