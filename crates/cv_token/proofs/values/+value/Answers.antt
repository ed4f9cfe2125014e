-- Each pair's key is above those before it, so that it goes in last.
use Rattle.std.proofs.Common.{◌≡◌, suc, ◌+◌, [], ◌∷◌, ◌++◌, take, drop, true, ◌&&◌, sym, ap, ap₂, ◌∙◌, subst, string_bytes}
use Rattle.std.proofs.lemmas.List.{take_more, drop_more, drop_all}
use Rattle.std.proofs.lemmas.Str.{is_utf8-from_IsUtf8}
use Rattle.std.proofs.Math.Seq.{split_at}
use Rattle.std.specs.Str.{IsUtf8}
use Rattle.serde_json.specs.View.{members_view}
use Rattle.serde_json.proofs.Views.{members_view-insert_entry}
use Rattle.cv_token.specs.Rising.{AreRising}
use Rattle.cv_token.specs.Forms.{data_of, on_values}
use Rattle.cv_token.specs.Shape.{is_token, all_members}
use Rattle.cv_token.proofs.Lasts.{put_last}
use Rattle.cv_token.proofs.Levels.{is_token-Text, both_true}
use Rattle.cv_token.proofs.Rises.{are_rising-from_keys}
use Rattle.cv_token.proofs.values.+value.Goals as goal

pub members_of-loop-pair-preserved : goal.members_of-loop-pair-preserved
members_of-loop-pair-preserved t c =
    let xs = c.as_slice-pair-items.result.now in
    let i = c.loop-pair.pair-index in
    let p = c.pair-item.result in
    let old = c.loop-pair.members.entries in
    let done = take i xs in
    let rest = drop (i + 1) xs in
    let split : xs ≡ done ++ p ∷ drop (suc i) xs = split_at xs i p c.loop-pair-test.true ∙ ap (λ x. done ++ x ∷ drop (suc i) xs) (sym c.pair-item.is) in
    let more : take (i + 1) xs ≡ done ++ p ∷ [] = take_more xs i p c.loop-pair-test.true ∙ ap (λ x. done ++ x ∷ []) (sym c.pair-item.is) in
    let next : drop i xs ≡ p ∷ rest = drop_more xs i p c.loop-pair-test.true ∙ ap (λ x. x ∷ rest) (sym c.pair-item.is) in
    let rise : AreRising (done ++ p ∷ drop (suc i) xs) = subst AreRising split (subst AreRising (sym c.as_slice-pair-items.ensures.value) c.as_slice-pair-items.ensures.rising) in
    let named : string_bytes c.in_ok-name.name ≡ p.key = c.in_ok-name.ensures.ok ∙ c.as_str.ensures in
    let text : IsUtf8 p.key = subst IsUtf8 c.as_str.ensures c.as_str.utf8 in (
      ap members_view c.in_ok-insert.ensures.entries
          ∙ members_view-insert_entry old c.in_ok-name.name c.in_ok-value_of.field-0
          ∙ rw (named, c.in_ok-value_of.ensures.value, c.loop-pair.invariant.0, more) (put_last data_of done p (drop (suc i) xs) rise),
      sym (both_true _ _ (all_members (on_values is_token rest)) (is_utf8-from_IsUtf8 p.key text) c.in_ok-value_of.ensures.known)
          ∙ ap (λ l. all_members (on_values is_token l)) (sym next)
          ∙ c.loop-pair.invariant.1,
    )

pub members_of-returns-clause-known : goal.members_of-returns-clause-known
members_of-returns-clause-known t c =
    let xs = c.as_slice-pair-items.result.now in
    let none : drop c.loop-pair.pair-index xs ≡ [] = drop_all c.loop-pair.pair-index xs c.loop-pair-test.false in
    let all : all_members (on_values is_token xs) ≡ true = sym c.loop-pair.invariant.1 ∙ ap (λ l. all_members (on_values is_token l)) none in
    ap₂ ◌&&◌ (are_rising-from_keys is_token c.args.pairs.now c.as_slice-pair-items.ensures.rising) (subst (λ l. all_members (on_values is_token l) ≡ true) c.as_slice-pair-items.ensures.value all)

pub value_of-returns-in_ok-from_str-in-Text-clause-known : goal.value_of-returns-in_ok-from_str-in-Text-clause-known
value_of-returns-in_ok-from_str-in-Text-clause-known t c = ap is_token c.in-Text.is ∙ is_token-Text c.in-Text.text ∙ is_utf8-from_IsUtf8 c.in-Text.text (subst IsUtf8 c.as_str.ensures c.as_str.utf8)
