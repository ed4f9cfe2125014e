use Rattle.std.proofs.Common.{◌≤◌, ◌↔◌, drop}
use Rattle.serde_json.specs.Data.{items_depth, members_depth}
use Rattle.serde_json.specs.View.{items_view, members_view}
use Rattle.cv_token.proofs.found.+within.Given as goal

-- what is left decides
abbrev pub invariant-values_within-loop-value : goal.invariant-values_within-loop-value
invariant-values_within-loop-value l =
    (items_depth (items_view (drop l.value-index l.value-items)) ≤ l.most) ↔ (items_depth (items_view l.value-items) ≤ l.most)

abbrev pub invariant-members_within-loop-name : goal.invariant-members_within-loop-name
invariant-members_within-loop-name l =
    (members_depth (members_view l._name-iterator) ≤ l.most) ↔ (members_depth (members_view l.members.entries) ≤ l.most)
