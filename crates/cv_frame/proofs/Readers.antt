-- The readers of a port, as they are written.
use Rattle.std.proofs.Common.{◌≡◌, ℕ, ◌≤◌, List, length, map, take, Some, None, slice_get, inl, inr, refl, sym, ap, ◌∙◌, arith}
use Rattle.std.proofs.lemmas.Option.{slice_get_cases}
use Rattle.cv_token.specs.declared.token.Token.{Token}
use Rattle.cv_token.specs.declared.token.Token.TheVariants as tree
use Rattle.cv_queue.specs.declared.reader.Reader.{Reader}
use Rattle.cv_frame.specs.Trees.{reader_tree, most_readers}
use Rattle.cv_frame.proofs.Lists.{all_taken}

most_is : most_readers ≡ 65535
unfolding most_readers
most_is = refl

past_none : (xs : List Reader) (i : ℕ) → slice_get xs i ≡ None → length xs ≤ i
past_none xs i none =
    elim (slice_get_cases xs i).1 [
      | inl s ↦ absurd (let some : slice_get xs i ≡ Some s.0 = s.2 in cc)
      | inr p ↦ p.0
    ]

-- where a reader is lacking all are written
pub readers_whole : (xs : List Reader) (i : ℕ) (ts : List Token) → ts ≡ map reader_tree (take i xs) → slice_get xs i ≡ None → i ≤ 65535 → tree.List ts ≡ tree.List (map reader_tree (take most_readers xs))
readers_whole xs i ts e none within =
    ap tree.List (e ∙ ap (map reader_tree) (sym (all_taken xs i most_readers (past_none xs i none) (omega (arith, most_is)))))

-- and at the bound those that count
pub readers_full : (xs : List Reader) (i : ℕ) (ts : List Token) → ts ≡ map reader_tree (take i xs) → 65535 ≤ i → i ≤ 65535 → tree.List ts ≡ tree.List (map reader_tree (take most_readers xs))
readers_full xs i ts e low high =
    let is : i ≡ most_readers = omega (arith, most_is) in
    ap tree.List (e ∙ ap (λ (n : ℕ). map reader_tree (take n xs)) is)
