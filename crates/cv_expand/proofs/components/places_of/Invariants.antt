use Rattle.std.proofs.Common.{◌≡◌, ◌++◌, drop}
use Rattle.cv_expand.specs.Components.{component_places}
use Rattle.cv_expand.proofs.components.places_of.Given as goal

-- what is left stands behind what was put
abbrev pub invariant-loop-place : goal.invariant-loop-place
invariant-loop-place l = l.places ++ component_places l.place (drop l.place l.script) ≡ component_places 0 l.script
