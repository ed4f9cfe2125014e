use Rattle.std.proofs.Common.{◌≡◌, [], drop}
use Rattle.cv_expand.specs.Components.{components_in}
use Rattle.cv_expand.specs.Heads.{component_faults}
use Rattle.cv_expand.proofs.checking.check_components.Given as goal

-- what is left decides
abbrev pub invariant-loop-item : goal.invariant-loop-item
invariant-loop-item l = component_faults l.places (components_in (drop l.item-index l.script)) ≡ component_faults [] (components_in l.script)
