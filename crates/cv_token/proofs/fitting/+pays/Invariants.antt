use Rattle.std.proofs.Common.{◌≡◌, length, drop, map}
use Rattle.cv_token.specs.Bounds.{left}
use Rattle.cv_token.specs.Forms.{on_values}
use Rattle.cv_token.specs.Shape.{is_token, all_true, all_members}
use Rattle.cv_token.specs.Spelling.{spelling, behind_commas, members}
use Rattle.cv_token.proofs.fitting.+pays.Given as goal

-- the rest is paid out of what is left, and decides whether all are tokens
abbrev pub invariant-left_after_items-loop-item : goal.invariant-left_after_items-loop-item
invariant-left_after_items-loop-item l =
    (left l.room (length (behind_commas (map spelling (drop l.item-index l.item-items)))) ≡ left l.fn.room (length (behind_commas (map spelling l.item-items))))
    × (all_true (map is_token (drop l.item-index l.item-items)) ≡ all_true (map is_token l.item-items))

abbrev pub invariant-left_after_pairs-loop-pair : goal.invariant-left_after_pairs-loop-pair
invariant-left_after_pairs-loop-pair l =
    (left l.room (length (behind_commas (members (on_values spelling (drop l.pair-index l.pair-items))))) ≡ left l.fn.room (length (behind_commas (members (on_values spelling l.pair-items)))))
    × (all_members (on_values is_token (drop l.pair-index l.pair-items)) ≡ all_members (on_values is_token l.pair-items))
