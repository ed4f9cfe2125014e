use Rattle.std.proofs.Common.{◌≡◌, take, drop, map}
use Rattle.serde_json.specs.View.{view, members_view}
use Rattle.cv_token.specs.Forms.{data_of, on_values, members_from}
use Rattle.cv_token.specs.Shape.{is_token, all_true, all_members}
use Rattle.cv_token.proofs.values.+value.Given as goal

-- what was passed is written, and the rest decides whether all are tokens
abbrev pub invariant-values_of-loop-item : goal.invariant-values_of-loop-item
invariant-values_of-loop-item l =
    (map view l.values.items ≡ map data_of (take l.item-index l.item-items))
    × (all_true (map is_token (drop l.item-index l.item-items)) ≡ all_true (map is_token l.item-items))

abbrev pub invariant-members_of-loop-pair : goal.invariant-members_of-loop-pair
invariant-members_of-loop-pair l =
    (members_view l.members.entries ≡ members_from (on_values data_of (take l.pair-index l.pair-items)))
    × (all_members (on_values is_token (drop l.pair-index l.pair-items)) ≡ all_members (on_values is_token l.pair-items))
