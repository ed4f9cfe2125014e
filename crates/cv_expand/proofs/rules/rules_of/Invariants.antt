use Rattle.std.proofs.Common.{◌≡◌, ◌++◌, drop}
use Rattle.cv_expand.specs.Heads.{rules_in}
use Rattle.cv_expand.proofs.rules.rules_of.Given as goal

-- what is left stands behind what was copied
abbrev pub invariant-loop-item : goal.invariant-loop-item
invariant-loop-item l = l.rules ++ rules_in (drop l.item-index l.script) ≡ rules_in l.script
