use Rattle.std.proofs.Common.{◌≡◌, ℕ, ◌+◌, List, [], ◌∷◌, ◌++◌, length, drop, true, ◌&&◌, Some, sym, ap, ap₂, ◌∙◌, subst, arith, length-append}
use Rattle.std.proofs.lemmas.List.{drop_more, drop_all}
use Rattle.std.proofs.lemmas.Str.{is_utf8-from_IsUtf8}
use Rattle.std.specs.Str.{IsUtf8}
use Rattle.json.specs.Print.{quoted}
use Rattle.cv_token.specs.Bounds.{left}
use Rattle.cv_token.specs.Forms.{on_values}
use Rattle.cv_token.specs.Shape.{is_token, all_members}
use Rattle.cv_token.specs.Spelling.{spelling, behind_commas, members}
use Rattle.cv_token.proofs.Levels.{brackets, both_true, is_token-Text, is_token-Dict, length-spelling-List, length-spelling-Dict}
use Rattle.cv_token.proofs.Paid.{pays_both, on_some, on_some_map}
use Rattle.cv_token.proofs.Rises.{are_rising-from_keys}
use Rattle.cv_token.proofs.fitting.+pays.Goals as goal

pub left_after-returns-in-Text-clause-known : goal.left_after-returns-in-Text-clause-known
left_after-returns-in-Text-clause-known t c =
    on_some c.left_after_quoted.result
    (ap is_token c.in-Text.is ∙ is_token-Text c.in-Text.text ∙ is_utf8-from_IsUtf8 c.in-Text.text (subst IsUtf8 c.as_str.ensures c.as_str.utf8))

-- after the brackets the items are paid
both_paid : (room b rest whole r n k : ℕ) → Some r ≡ left room b → b ≡ brackets n → n ≡ k → whole ≡ brackets k + rest → left r rest ≡ left room whole
both_paid room b rest whole r n k paid by is e = sym (pays_both room b rest r paid) ∙ ap (left room) (ap (λ m. m + rest) (by ∙ ap brackets is) ∙ sym e)

pub left_after-returns-in_ok-pay-in-List-clause-value :
    goal.left_after-returns-in_ok-pay-in-List-clause-value
left_after-returns-in_ok-pay-in-List-clause-value t c =
    c.left_after_items.ensures.value
    ∙ both_paid c.args.room _ _ _ _ _ _ (sym c.in_ok-pay-in-List.was ∙ c.pay-in-List.ensures) c.brackets.ensures c.len.ensures (ap (λ x. length (spelling x)) c.in-List.is ∙ length-spelling-List c.in-List.items)

pub left_after-returns-in_ok-pay-in-Dict-clause-value :
    goal.left_after-returns-in_ok-pay-in-Dict-clause-value
left_after-returns-in_ok-pay-in-Dict-clause-value t c =
    c.left_after_pairs.ensures.value
    ∙ both_paid c.args.room _ _ _ _ _ _ (sym c.in_ok-pay-in-Dict.was ∙ c.pay-in-Dict.ensures) c.brackets-in-Dict.ensures c.len-in-Dict.ensures (ap (λ x. length (spelling x)) c.in-Dict.is ∙ length-spelling-Dict c.in-Dict.pairs)

pub left_after-returns-in_ok-pay-in-Dict-clause-known :
    goal.left_after-returns-in_ok-pay-in-Dict-clause-known
left_after-returns-in_ok-pay-in-Dict-clause-known t c =
    on_some_map c.left_after_pairs.result (λ h. ap is_token c.in-Dict.is ∙ is_token-Dict c.in-Dict.pairs ∙ h) c.left_after_pairs.ensures.known

-- a comma, a key with its colon and a value are paid, and then the rest
member_paid : (room r₁ r₂ r₃ : ℕ) (k v b : List ℕ) → Some r₁ ≡ left room 2 → Some r₂ ≡ left r₁ (length (quoted k)) → Some r₃ ≡ left r₂ (length v)
    → left r₃ (length b) ≡ left room (length (44 ∷ ((quoted k ++ 58 ∷ v) ++ b)))
member_paid room r₁ r₂ r₃ k v b e₁ e₂ e₃ =
    let q = length (quoted k) in
    let total : 2 + (q + (length v + length b)) ≡ length (44 ∷ ((quoted k ++ 58 ∷ v) ++ b)) = omega (arith, length-append (quoted k ++ 58 ∷ v) b, length-append (quoted k) (58 ∷ v)) in
    sym (pays_both room 2 (q + (length v + length b)) r₁ e₁ ∙ pays_both r₁ q (length v + length b) r₂ e₂ ∙ pays_both r₂ (length v) (length b) r₃ e₃) ∙ ap (left room) total

pub left_after_pairs-loop-pair-preserved : goal.left_after_pairs-loop-pair-preserved
left_after_pairs-loop-pair-preserved t c =
    let xs = c.as_slice-pair-items.result.now in
    let i = c.loop-pair.pair-index in
    let p = c.pair-item.result in
    let rest = drop (i + 1) xs in
    let next : drop i xs ≡ p ∷ rest = drop_more xs i p c.loop-pair-test.true ∙ ap (λ x. x ∷ rest) (sym c.pair-item.is) in
    let quoted_key : Some c.in_ok-room.room ≡ left c.in_ok-pay.field-0 (length (quoted p.key)) = c.in_ok-room.ensures ∙ ap (λ k. left c.in_ok-pay.field-0 (length (quoted k))) c.as_str.ensures in
    let text : IsUtf8 p.key = subst IsUtf8 c.as_str.ensures c.as_str.utf8 in (
      member_paid c.loop-pair.room c.in_ok-pay.field-0 c.in_ok-room.room c.in_ok-room-2.room p.key (spelling p.value) (behind_commas (members (on_values spelling rest))) c.in_ok-pay.ensures quoted_key c.in_ok-room-2.ensures.value
          ∙ ap (λ l. left c.loop-pair.room (length (behind_commas (members (on_values spelling l))))) (sym next)
          ∙ c.loop-pair.invariant.0,
      sym (both_true _ _ (all_members (on_values is_token rest)) (is_utf8-from_IsUtf8 p.key text) c.in_ok-room-2.ensures.known)
          ∙ ap (λ l. all_members (on_values is_token l)) (sym next)
          ∙ c.loop-pair.invariant.1,
    )

pub left_after_pairs-returns-clause-known : goal.left_after_pairs-returns-clause-known
left_after_pairs-returns-clause-known t c =
    let xs = c.as_slice-pair-items.result.now in
    let none : drop c.loop-pair.pair-index xs ≡ [] = drop_all c.loop-pair.pair-index xs c.loop-pair-test.false in
    let all : all_members (on_values is_token xs) ≡ true = sym c.loop-pair.invariant.1 ∙ ap (λ l. all_members (on_values is_token l)) none in
    ap₂ ◌&&◌ (are_rising-from_keys is_token c.args.pairs.now c.as_slice-pair-items.ensures.rising) (subst (λ l. all_members (on_values is_token l) ≡ true) c.as_slice-pair-items.ensures.value all)
