-- Texts line by line.
use Rattle.std.proofs.Common.{◌≡◌, ◌≢◌, ℕ, suc, ◌+◌, ◌<◌, ◌≤◌, Bool, true, false, List, [], ◌∷◌, ◌++◌, Some, None, cond, nat_lt, length, take, drop, get_or, flat_map, refl, sym, subst, ap, ap₂, ◌∙◌, arith, append_assoc, length-append}
use Rattle.std.proofs.Math.Seq.{drop-cons}
use Rattle.std.proofs.lemmas.Bool.{eqb-true, ltb-false}
use Rattle.std.proofs.lemmas.List.{get_or-take, length-take-le, take-append-drop}
use Rattle.std.proofs.lemmas.List.Elements.{All-head, All-tail}
use Rattle.std.proofs.lemmas.List.Quantifiers.{position-Some}
use Rattle.std.proofs.lemmas.List.Sums.{fails_before_first}
use Rattle.std.specs.List.{All, position, position_or_len}
use Rattle.cv_record.specs.Faults.{IsWithinLine, is_feed}
use Rattle.cv_record.specs.Journals.{line}

abbrev Other : ℕ → Type 0
Other b = b ≢ 10

-- bytes have one first line
pub one_first : (x y a b : List ℕ) → IsWithinLine x → IsWithinLine y → line x ++ a ≡ line y ++ b → (x ≡ y) × (a ≡ b)
one_first [] [] a b h k e = (refl, let same : a ≡ b = cc in same)
one_first [] (c ∷ y) a b h k e = absurd (let first : 10 ≡ c = cc in All-head Other c y k (sym first))
one_first (c ∷ x) [] a b h k e = absurd (let first : c ≡ 10 = cc in All-head Other c x h first)
one_first (c ∷ x) (d ∷ y) a b h k e =
    let first : c ≡ d = cc in
    let rest : line x ++ a ≡ line y ++ b = cc in
    let both = one_first x y a b (All-tail Other c x h) (All-tail Other d y k) rest in
    (ap₂ ◌∷◌ first both.0, both.1)

-- bytes without a line feed begin with no line
pub no_first : (x a b : List ℕ) → IsWithinLine b → line x ++ a ≡ b → ⊥
no_first [] a [] k e = absurd (let n = ap length e in omega arith)
no_first [] a (c ∷ b) k e = let first : 10 ≡ c = cc in All-head Other c b k (sym first)
no_first (c ∷ x) a [] k e = absurd (let n = ap length e in omega arith)
no_first (c ∷ x) a (d ∷ b) k e = let rest : line x ++ a ≡ b = cc in no_first x a b (All-tail Other d b k) rest

-- the lines behind some that both begin with
pub lines_behind : (ys xs : List (List ℕ)) (more : List ℕ) → All IsWithinLine ys → All IsWithinLine xs → flat_map line xs ≡ flat_map line ys ++ more
    → (zs : List (List ℕ)) × (xs ≡ ys ++ zs) × (flat_map line zs ≡ more)
lines_behind [] xs more h k e = (xs, refl, e)
lines_behind (y ∷ ys) [] more h k e = absurd (let n = ap length e in omega (arith, length-append (line y ++ flat_map line ys) more, length-append (line y) (flat_map line ys), length-append y (10 ∷ [])))
lines_behind (y ∷ ys) (x ∷ xs) more h k e =
    let both = one_first x y (flat_map line xs) (flat_map line ys ++ more) (All-head IsWithinLine x xs k) (All-head IsWithinLine y ys h) (e ∙ append_assoc (line y) (flat_map line ys) more) in
    let rest = lines_behind ys xs more (All-tail IsWithinLine y ys h) (All-tail IsWithinLine x xs k) both.1 in
    (rest.0, ap₂ ◌∷◌ both.0 rest.1, rest.2)

-- ---- where the first line feed stands

other : (b : ℕ) → is_feed b ≡ false → b ≢ 10
other b e is = let t : is_feed 10 ≡ false = subst (λ (x : ℕ). is_feed x ≡ false) is e in cc

-- the bytes before a place where none of them is a line feed
front_within : (bytes : List ℕ) (i : ℕ) → i ≤ length bytes → ((k d : ℕ) → k < i → is_feed (get_or bytes k d) ≡ false) → IsWithinLine (take i bytes)
front_within bytes i within h k d lt is =
    let low : k < i = omega (arith, length-take-le i bytes within) in
    other (get_or bytes k d) (h k d low) (sym (get_or-take i bytes k d low) ∙ is)

pub split_there : (bytes : List ℕ) (i : ℕ) → position is_feed bytes ≡ Some i → IsWithinLine (take i bytes) × (bytes ≡ take i bytes ++ 10 ∷ drop (i + 1) bytes)
split_there bytes i e =
    let p : (d : ℕ) → (i < length bytes) × (is_feed (get_or bytes i d) ≡ true) × ((k : ℕ) → k < i → is_feed (get_or bytes k d) ≡ false) = λ d. position-Some is_feed bytes i d e in
    let feed : get_or bytes i 0 ≡ 10 = eqb-true (get_or bytes i 0) 10 (p 0).1 in
    let next : suc i ≡ i + 1 = omega arith in (
      front_within bytes i (omega (arith, (p 0).0)) (λ k d lt. (p d).2 k lt),
      sym (take-append-drop i bytes) ∙ ap (λ (l : List ℕ). take i bytes ++ l) (drop-cons bytes i 0 (p 0).0 ∙ (λ j. feed j ∷ drop (next j) bytes)),
    )

none_found : (bytes : List ℕ) (r : Bool) → nat_lt (position_or_len is_feed bytes) (length bytes) ≡ r → cond r (Some (position_or_len is_feed bytes)) None ≡ None → IsWithinLine bytes
none_found bytes true e found = absurd (let no : Some (position_or_len is_feed bytes) ≡ None = found in cc)
none_found bytes false e found = λ k d lt is.
    let past = ltb-false (position_or_len is_feed bytes) (length bytes) e in
    other (get_or bytes k d) (fails_before_first is_feed bytes k d (omega (arith, past))) is

pub no_feed : (bytes : List ℕ) → position is_feed bytes ≡ None → IsWithinLine bytes
no_feed bytes e = none_found bytes (nat_lt (position_or_len is_feed bytes) (length bytes)) refl e

-- ---- what the first line is

-- a line that stands at the front of bytes is their first one
pub first_is : (bytes text behind other more : List ℕ) → IsWithinLine text → IsWithinLine other → bytes ≡ text ++ 10 ∷ behind → bytes ≡ line other ++ more → text ≡ other
first_is bytes text behind other more h k is at = (one_first text other behind more h k (append_assoc text (10 ∷ []) behind ∙ sym is ∙ at)).0
