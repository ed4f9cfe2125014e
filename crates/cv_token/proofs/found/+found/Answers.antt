use Rattle.std.proofs.Common.{◌≡◌, ◌∷◌, [], ◌++◌, Some, option_map, string_bytes, sym, ap, ◌∙◌, append-nil}
use Rattle.serde_json.specs.View.{members_view}
use Rattle.cv_token.specs.declared.pairs.Pair.{Pair}
use Rattle.cv_token.specs.declared.token.Token.{Token}
use Rattle.cv_token.specs.Forms.{pairs_of}
use Rattle.cv_token.proofs.Keyed.{moved, AreRising-pairs_of}
use Rattle.cv_token.proofs.found.+found.Goals as goal

pub pairs_from-loop-name-preserved : goal.pairs_from-loop-name-preserved
pairs_from-loop-name-preserved t c =
    let left = c.next.new.self in
    let old = c.loop-name.pairs in
    let key : c.from_string-key.result ≡ string_bytes c.in-Some.name.now = c.from_string-key.ensures ∙ c.in_ok-from_str.ensures.ok ∙ c.as_str.ensures.value in
    let p : Pair Token = record { key = string_bytes c.in-Some.name.now; value = c.in_ok-value.value } in
    let pushed : c.push.new.self ≡ old ++ p ∷ [] = c.in_ok-push.ensures.ok ∙ ap (λ k. old ++ record { key = k; value = c.in_ok-value.value } ∷ []) key in
    let first : pairs_of (members_view c.loop-name.name-iterator) ≡ option_map (λ ps. p ∷ ps) (pairs_of (members_view left)) = ap (λ es. pairs_of (members_view es)) c.in-Some.ensures.steps ∙ rw c.in_ok-value.ensures in
    ap (λ xs. option_map (λ ps. xs ++ ps) (pairs_of (members_view left))) pushed
    ∙ moved old p (pairs_of (members_view left))
    ∙ ap (option_map (λ ps. old ++ ps)) (sym first)
    ∙ c.loop-name.invariant

pub pairs_from-from_items-requires : goal.pairs_from-from_items-requires
pairs_from-from_items-requires t c =
    let es = c.args.members.now.entries in
    let ps = c.loop-name.pairs in
    let all : pairs_of (members_view es) ≡ Some (ps ++ []) = sym c.loop-name.invariant ∙ ap (λ xs. option_map (λ qs. ps ++ qs) (pairs_of (members_view xs))) c.in-None.ensures.steps.0 in
    AreRising-pairs_of es ps (all ∙ ap Some (append-nil ps)) c.iter-name-items.ensures.ordered
