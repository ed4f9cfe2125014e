-- The window, one byte at a time.
use Rattle.std.proofs.Common.{◌≡◌, ℕ, zero, suc, ◌+◌, ◌-◌, ◌<◌, ◌≤◌, Bool, true, false, cond, eqb, ◌||◌, List, [], ◌∷◌, ◌++◌, length, get_or, take, drop, refl, sym, ap, ◌∙◌, arith, append_assoc, append-nil}
use Rattle.std.proofs.lemmas.List.{take_more, drop_more, length-take, length-drop}
use Rattle.std.proofs.lemmas.List.Sums.{sum_by-append, sum_by-cons}
use Rattle.std.proofs.lemmas.Bool.Decides.{nat_tests}
use Rattle.cv_http.specs.Windows.{window_at, window, line_feeds, is_full}
use Rattle.cv_http.specs.declared.window.TheConstants.{MOST_HEAD, MOST_LINES}

-- one more byte comes into a window with room
at_next : (room lines b : ℕ) (bytes : List ℕ) → 0 < room → 0 < lines
    → window_at room lines (b ∷ bytes) ≡ b ∷ window_at (room - 1) (lines - cond (eqb b 10) 1 0) bytes
unfolding window_at
at_next zero lines b bytes some few = absurd (omega arith)
at_next (suc room) zero b bytes some few = absurd (omega arith)
at_next (suc room) (suc lines) b bytes some few = by_test (eqb b 10)
  where
    by_test : (t : Bool) → b ∷ window_at room (cond t lines (suc lines)) bytes
        ≡ b ∷ window_at (suc room - 1) (suc lines - cond t 1 0) bytes
    by_test true =
        let r : room ≡ suc room - 1 = omega arith in
        let l : lines ≡ suc lines - 1 = omega arith in
        λ i. b ∷ window_at (r i) (l i) bytes
    by_test false =
        let r : room ≡ suc room - 1 = omega arith in
        let l : suc lines ≡ suc lines - 0 = omega arith in
        λ i. b ∷ window_at (r i) (l i) bytes

-- none comes into one without
at_end : (room lines : ℕ) (bytes : List ℕ) → (0 < room → 0 < lines → length bytes ≡ 0) → window_at room lines bytes ≡ []
unfolding window_at
at_end zero lines bytes none = refl
at_end (suc room) zero bytes none = refl
at_end (suc room) (suc lines) [] none = refl
at_end (suc room) (suc lines) (b ∷ bytes) none =
    let empty : length (b ∷ bytes) ≡ 0 = none (omega arith) (omega arith) in absurd (omega arith)

pub window_step : (bytes : List ℕ) (len lines : ℕ) → len < length bytes → len < MOST_HEAD → lines < MOST_LINES
    → window bytes ≡ take len bytes ++ window_at (MOST_HEAD - len) (MOST_LINES - lines) (drop len bytes)
    → window bytes ≡ take (len + 1) bytes
    ++ window_at (MOST_HEAD - (len + 1)) (MOST_LINES - (lines + cond (eqb (get_or bytes len 0) 10) 1 0)) (drop (len + 1) bytes)
window_step bytes len lines inside room few before =
    let b = get_or bytes len 0 in
    let f : ℕ = cond (eqb b 10) 1 0 in
    let rooms : MOST_HEAD - len - 1 ≡ MOST_HEAD - (len + 1) = omega arith in
    let lefts : MOST_LINES - lines - f ≡ MOST_LINES - (lines + f) = omega arith in
    let next = ap (window_at (MOST_HEAD - len) (MOST_LINES - lines)) (drop_more bytes len 0 inside)
    ∙ at_next (MOST_HEAD - len) (MOST_LINES - lines) b (drop (len + 1) bytes) (omega arith) (omega arith)
    ∙ (λ i. b ∷ window_at (rooms i) (lefts i) (drop (len + 1) bytes)) in
    before ∙ ap (λ (w : List ℕ). take len bytes ++ w) next
    ∙ sym (append_assoc (take len bytes) (b ∷ []) (window_at (MOST_HEAD - (len + 1)) (MOST_LINES - (lines + f)) (drop (len + 1) bytes)))
    ∙ ap (λ (t : List ℕ). t ++ window_at (MOST_HEAD - (len + 1)) (MOST_LINES - (lines + f)) (drop (len + 1) bytes)) (sym (take_more bytes len 0 inside))

pub feeds_step : (bytes : List ℕ) (len : ℕ) → len < length bytes
    → line_feeds (take (len + 1) bytes) ≡ line_feeds (take len bytes) + cond (eqb (get_or bytes len 0) 10) 1 0
feeds_step bytes len inside =
    let test : ℕ → ℕ = λ b. cond (eqb b 10) 1 0 in
    let last = sum_by-cons test (get_or bytes len 0) [] in
    let both = ap line_feeds (take_more bytes len 0 inside) ∙ sum_by-append test (take len bytes) (get_or bytes len 0 ∷ []) in
    omega (arith, last, both)

pub window_end : (bytes : List ℕ) (len lines : ℕ)
    → (len < MOST_HEAD → lines < MOST_LINES → length bytes ≤ len)
    → window bytes ≡ take len bytes ++ window_at (MOST_HEAD - len) (MOST_LINES - lines) (drop len bytes)
    → take len bytes ≡ window bytes
window_end bytes len lines ended before =
    let none = at_end (MOST_HEAD - len) (MOST_LINES - lines) (drop len bytes)
    (λ room few. let over : length bytes ≤ len = ended (omega arith) (omega arith) in omega (arith, length-drop len bytes)) in
    sym (before ∙ ap (λ (w : List ℕ). take len bytes ++ w) none ∙ append-nil (take len bytes))

pub full_end : (bytes : List ℕ) (len lines : ℕ) → len ≤ length bytes → take len bytes ≡ window bytes
    → lines ≡ line_feeds (take len bytes) → (eqb len MOST_HEAD || eqb lines MOST_LINES) ≡ is_full bytes
full_end bytes len lines within is count =
    let long : len ≡ length (window bytes) = omega (arith, length-take len bytes, ap length is) in
    let feeds : lines ≡ line_feeds (window bytes) = count ∙ ap line_feeds is in
    λ i. eqb (long i) MOST_HEAD || eqb (feeds i) MOST_LINES

pub feed_most : (b : ℕ) → cond (eqb b 10) 1 0 ≤ 1
feed_most b = by_test (eqb b 10)
  where
    by_test : (t : Bool) → cond t 1 0 ≤ 1
    by_test true = omega arith
    by_test false = omega arith

-- a window that is not full has room for a byte, and a full one has none
pub room_left : (len lines : ℕ) → (eqb len MOST_HEAD || eqb lines MOST_LINES) ≡ false → len ≤ MOST_HEAD → lines ≤ MOST_LINES
    → (len < MOST_HEAD) × (lines < MOST_LINES)
room_left len lines room most few = (grind (arith, nat_tests), grind (arith, nat_tests))

pub no_room : (len lines : ℕ) → (eqb len MOST_HEAD || eqb lines MOST_LINES) ≡ true → len < MOST_HEAD → lines < MOST_LINES → ⊥
no_room len lines full room few = grind (arith, nat_tests)
