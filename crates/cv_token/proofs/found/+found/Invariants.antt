use Rattle.std.proofs.Common.{◌≡◌, ◌++◌, drop, option_map}
use Rattle.serde_json.specs.View.{items_view, members_view}
use Rattle.cv_token.specs.Forms.{tokens_of, pairs_of}
use Rattle.cv_token.proofs.found.+found.Given as goal

-- what was found and what is left are the whole
abbrev pub invariant-items_from-loop-value : goal.invariant-items_from-loop-value
invariant-items_from-loop-value l =
    option_map (λ ts. l.items ++ ts) (tokens_of (items_view (drop l.value-index l.value-items))) ≡ tokens_of (items_view l.value-items)

abbrev pub invariant-pairs_from-loop-name : goal.invariant-pairs_from-loop-name
invariant-pairs_from-loop-name l =
    option_map (λ ps. l.pairs ++ ps) (pairs_of (members_view l.name-iterator)) ≡ pairs_of (members_view l.members.entries)
