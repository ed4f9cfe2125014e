-- A stream that is put back is what it was.
use Rattle.std.proofs.Common.{◌≡◌, ℕ, zero, suc, List, [], ◌∷◌, get_or, slice_set, refl, ap, ◌∙◌}
use Rattle.cv_solo.specs.declared.stream.Stream.{Stream}

put_back : (old : List Stream) (place : ℕ) (first next found last : Stream) → first ≡ get_or old place first → found ≡ get_or (slice_set old place next) place found → (found ≡ next → last ≡ first) → slice_set (slice_set old place next) place last ≡ old
put_back [] zero first next found last is was undo = refl
put_back [] (suc i) first next found last is was undo = refl
put_back (y ∷ ys) zero first next found last is was undo = ap (λ (z : Stream). z ∷ ys) (undo was ∙ is)
put_back (y ∷ ys) (suc i) first next found last is was undo = ap (λ (zs : List Stream). y ∷ zs) (put_back ys i first next found last is was undo)

pub set_back : (old inner : List Stream) (place : ℕ) (first next found last : Stream) → first ≡ get_or old place first → inner ≡ slice_set old place next → found ≡ get_or inner place found → (found ≡ next → last ≡ first) → slice_set inner place last ≡ old
set_back old inner place first next found last is same was undo =
    ap (λ (xs : List Stream). slice_set xs place last) same
    ∙ put_back old place first next found last is (was ∙ ap (λ (xs : List Stream). get_or xs place found) same) undo
