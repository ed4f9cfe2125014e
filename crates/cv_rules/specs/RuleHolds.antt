-- When a rule holds of a node's attributes.
use Rattle.std.specs.Prelude.{ℕ, Bool, true, not, ◌&&◌, ◌||◌, List, ◌∷◌, ◌++◌}
use Rattle.std.specs.List.{list_all, list_any}
use Rattle.std.specs.Str.{bytes_eq}
use Rattle.cv_token.specs.declared.pairs.Pair.{Pair}
use Rattle.cv_rules.specs.declared.rule.Rule.{Rule, fold-Rule}
use Rattle.cv_rules.specs.declared.rule.Rule.TheOpen.{Rule-F}

-- the key is GROUP.FIELD
abbrev pub is_under : List ℕ → List ℕ → List ℕ → Bool
is_under group field key = bytes_eq key (group ++ 46 ∷ field)

-- the attribute is this field of the group
abbrev pub is_attribute : List ℕ → Pair (List ℕ) → Pair (List ℕ) → Bool
is_attribute group field attr = is_under group field.key attr.key && bytes_eq attr.value field.value

-- the field is an attribute of the group
abbrev pub has : List (Pair (List ℕ)) → List ℕ → Pair (List ℕ) → Bool
has attrs group field = list_any (is_attribute group field) attrs

-- one level, with whether each part of it holds
abbrev pub hold_step : List (Pair (List ℕ)) → Rule-F Bool → Bool
hold_step attrs Rule-F.Any = true
hold_step attrs (Rule-F.Match group fields) = list_all (has attrs group) fields
hold_step attrs (Rule-F.And one other) = one && other
hold_step attrs (Rule-F.Or one other) = one || other
hold_step attrs (Rule-F.Not rule) = not rule

-- the rule holds of the attributes
abbrev pub holds : Rule → List (Pair (List ℕ)) → Bool
holds rule attrs = fold-Rule Bool (hold_step attrs) rule
