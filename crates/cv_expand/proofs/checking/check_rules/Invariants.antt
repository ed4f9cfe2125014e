use Rattle.std.proofs.Common.{◌≡◌, [], drop}
use Rattle.cv_expand.specs.Walk.{repeat_faults}
use Rattle.cv_expand.specs.Heads.{rule_names}
use Rattle.cv_expand.proofs.checking.check_rules.Given as goal

-- what is left decides
abbrev pub invariant-loop-item : goal.invariant-loop-item
invariant-loop-item l = repeat_faults l.places (rule_names (drop l.item-index l.script)) ≡ repeat_faults [] (rule_names l.script)
