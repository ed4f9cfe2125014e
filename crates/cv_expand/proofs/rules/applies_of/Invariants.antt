use Rattle.std.proofs.Common.{◌≡◌, ◌++◌, drop}
use Rattle.cv_expand.specs.Heads.{applies_in}
use Rattle.cv_expand.proofs.rules.applies_of.Given as goal

-- what is left stands behind what was copied
abbrev pub invariant-loop-item : goal.invariant-loop-item
invariant-loop-item l = l.applies ++ applies_in (drop l.item-index l.script) ≡ applies_in l.script
