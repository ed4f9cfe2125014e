use Rattle.std.proofs.Common.{◌≤◌, ◌↔◌, drop, map}
use Rattle.cv_token.specs.Forms.{on_values}
use Rattle.cv_token.specs.Shape.{depth, greatest, greatest_value}
use Rattle.cv_token.proofs.depth.+nests.Given as goal

-- what is left decides
abbrev pub invariant-items_nest_within-loop-item : goal.invariant-items_nest_within-loop-item
invariant-items_nest_within-loop-item l =
    (greatest (map depth (drop l.item-index l.item-items)) ≤ l.most) ↔ (greatest (map depth l.item-items) ≤ l.most)

abbrev pub invariant-pairs_nest_within-loop-pair : goal.invariant-pairs_nest_within-loop-pair
invariant-pairs_nest_within-loop-pair l =
    (greatest_value (on_values depth (drop l.pair-index l.pair-items)) ≤ l.most) ↔ (greatest_value (on_values depth l.pair-items) ≤ l.most)
