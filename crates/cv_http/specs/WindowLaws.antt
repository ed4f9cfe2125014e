-- The window of bytes: what follows only adds to it, and a full one stays as it is.
use Rattle.std.proofs.Common.{◌≡◌, ◌≢◌, ℕ, zero, suc, ◌+◌, ◌<◌, ◌≤◌, Bool, true, false, cond, eqb, ◌||◌, List, [], ◌∷◌, ◌++◌, length, refl, ap, subst, arith}
use Rattle.std.specs.Prelude.{◌⊎◌}
use Rattle.std.proofs.Common.{inl, inr}
use Rattle.std.proofs.lemmas.Bool.{eqb-true, eqb-false}
use Rattle.std.proofs.lemmas.List.Sums.{sum_by-cons}
use Rattle.cv_http.specs.Windows.{window_at, window, line_feeds, is_full, IsWindow}
use Rattle.cv_http.specs.declared.window.TheConstants.{MOST_HEAD, MOST_LINES}

-- the lines that are left behind a byte
abbrev lines_behind : ℕ → ℕ → ℕ
lines_behind b lines = cond (eqb b 10) lines (suc lines)

at_more : (room lines : ℕ) (bytes more : List ℕ)
    → (tail : List ℕ) × (window_at room lines (bytes ++ more) ≡ window_at room lines bytes ++ tail)
unfolding window_at
at_more zero lines bytes more = ([], refl)
at_more (suc room) zero bytes more = ([], refl)
at_more (suc room) (suc lines) [] more = (window_at (suc room) (suc lines) more, refl)
at_more (suc room) (suc lines) (b ∷ bytes) more =
    let later = at_more room (lines_behind b lines) bytes more in
    (later.0, ap (λ (w : List ℕ). b ∷ w) later.1)

at_front : (room lines : ℕ) (bytes : List ℕ) → (rest : List ℕ) × (bytes ≡ window_at room lines bytes ++ rest)
unfolding window_at
at_front zero lines bytes = (bytes, refl)
at_front (suc room) zero bytes = (bytes, refl)
at_front (suc room) (suc lines) [] = ([], refl)
at_front (suc room) (suc lines) (b ∷ bytes) =
    let later = at_front room (lines_behind b lines) bytes in
    (later.0, ap (λ (w : List ℕ). b ∷ w) later.1)

-- a front of a window is a window whole
at_whole : (room lines : ℕ) (front bytes rest : List ℕ)
    → window_at room lines bytes ≡ front ++ rest → window_at room lines front ≡ front
unfolding window_at
at_whole zero lines [] bytes rest e = refl
at_whole zero lines (f ∷ front) bytes rest e = cc
at_whole (suc room) zero [] bytes rest e = refl
at_whole (suc room) zero (f ∷ front) bytes rest e = cc
at_whole (suc room) (suc lines) [] bytes rest e = refl
at_whole (suc room) (suc lines) (f ∷ front) [] rest e = cc
at_whole (suc room) (suc lines) (f ∷ front) (b ∷ bytes) rest e =
    let first : b ≡ f = cc in
    let later : window_at room (lines_behind b lines) bytes ≡ front ++ rest = cc in
    let kept = at_whole room (lines_behind f lines) front bytes rest
    (subst (λ (c : ℕ). window_at room (lines_behind c lines) bytes ≡ front ++ rest) first later) in
    ap (λ (w : List ℕ). f ∷ w) kept

-- the line feeds behind a byte are as many as the lines that are left behind it
feeds_behind : (b lines : ℕ) (w : List ℕ) → (line_feeds (b ∷ w) ≡ suc lines → line_feeds w ≡ lines_behind b lines)
    × (line_feeds w ≡ lines_behind b lines → line_feeds (b ∷ w) ≡ suc lines)
feeds_behind b lines w = by_test (eqb b 10) (sum_by-cons (λ x. cond (eqb x 10) 1 0) b w)
  where
    by_test : (t : Bool) → line_feeds (b ∷ w) ≡ cond t 1 0 + line_feeds w
        → (line_feeds (b ∷ w) ≡ suc lines → line_feeds w ≡ cond t lines (suc lines))
        × (line_feeds w ≡ cond t lines (suc lines) → line_feeds (b ∷ w) ≡ suc lines)
    by_test true count = (λ e. omega arith, λ e. omega arith)
    by_test false count = (λ e. omega arith, λ e. omega arith)

at_full : (room lines : ℕ) (bytes more : List ℕ)
    → (length (window_at room lines bytes) ≡ room) ⊎ (line_feeds (window_at room lines bytes) ≡ lines)
    → window_at room lines (bytes ++ more) ≡ window_at room lines bytes
unfolding window_at
at_full zero lines bytes more full = refl
at_full (suc room) zero bytes more full = refl
at_full (suc room) (suc lines) [] more full =
    elim full [ inl e ↦ absurd (omega arith) | inr e ↦ absurd (omega arith) ]
at_full (suc room) (suc lines) (b ∷ bytes) more full =
    let w = window_at room (lines_behind b lines) bytes in
    let later : (length w ≡ room) ⊎ (line_feeds w ≡ lines_behind b lines) =
    elim full [ inl e ↦ inl (omega arith) | inr e ↦ inr ((feeds_behind b lines w).0 e) ] in
    ap (λ (v : List ℕ). b ∷ v) (at_full room (lines_behind b lines) bytes more later)

at_room : (room lines : ℕ) (bytes : List ℕ) → length (window_at room lines bytes) ≢ room
    → line_feeds (window_at room lines bytes) ≢ lines → window_at room lines bytes ≡ bytes
unfolding window_at
at_room zero lines bytes short few = absurd (short refl)
at_room (suc room) zero bytes short few = absurd (few refl)
at_room (suc room) (suc lines) [] short few = refl
at_room (suc room) (suc lines) (b ∷ bytes) short few =
    let w = window_at room (lines_behind b lines) bytes in
    ap (λ (v : List ℕ). b ∷ v) (at_room room (lines_behind b lines) bytes (λ e. short (omega arith))
    (λ e. few ((feeds_behind b lines w).1 e)))

-- nothing stands behind the last of so many line feeds
at_few : (room lines : ℕ) (bytes before rest : List ℕ) (b : ℕ) → window_at room lines bytes ≡ before ++ b ∷ rest
    → line_feeds before < lines
unfolding window_at
at_few zero lines bytes [] rest b e = absurd (cc)
at_few zero lines bytes (f ∷ before) rest b e = absurd (cc)
at_few (suc room) zero bytes [] rest b e = absurd (cc)
at_few (suc room) zero bytes (f ∷ before) rest b e = absurd (cc)
at_few (suc room) (suc lines) [] [] rest b e = absurd (cc)
at_few (suc room) (suc lines) [] (f ∷ before) rest b e = absurd (cc)
at_few (suc room) (suc lines) (c ∷ bytes) [] rest b e = omega arith
at_few (suc room) (suc lines) (c ∷ bytes) (f ∷ before) rest b e =
    let first : c ≡ f = cc in
    let later : window_at room (lines_behind c lines) bytes ≡ before ++ b ∷ rest = cc in
    let few = at_few room (lines_behind c lines) bytes before rest b later in
    one_more f lines before (subst (λ (d : ℕ). line_feeds before < lines_behind d lines) first few)
  where
    one_more : (d n : ℕ) (w : List ℕ) → line_feeds w < lines_behind d n → line_feeds (d ∷ w) < suc n
    one_more d n w = by_test (eqb d 10) (sum_by-cons (λ x. cond (eqb x 10) 1 0) d w)
      where
        by_test : (t : Bool) → line_feeds (d ∷ w) ≡ cond t 1 0 + line_feeds w
            → line_feeds w < cond t n (suc n) → line_feeds (d ∷ w) < suc n
        by_test true count few = omega arith
        by_test false count few = omega arith

at_most : (room lines : ℕ) (bytes : List ℕ) → length (window_at room lines bytes) ≤ room
unfolding window_at
at_most zero lines bytes = omega arith
at_most (suc room) zero bytes = omega arith
at_most (suc room) (suc lines) [] = omega arith
at_most (suc room) (suc lines) (b ∷ bytes) = omega (arith, at_most room (lines_behind b lines) bytes)

-- ---- at the room of a head

either : (a b : Bool) → (a || b) ≡ true → (a ≡ true) ⊎ (b ≡ true)
either true b e = inl refl
either false b e = inr e

neither : (a b : Bool) → (a || b) ≡ false → (a ≡ false) × (b ≡ false)
neither true b e = cc
neither false b e = (refl, e)

pub window_more : (bytes more : List ℕ) → (tail : List ℕ) × (window (bytes ++ more) ≡ window bytes ++ tail)
window_more bytes more = at_more MOST_HEAD MOST_LINES bytes more

pub window_front : (bytes : List ℕ) → (rest : List ℕ) × (bytes ≡ window bytes ++ rest)
window_front bytes = at_front MOST_HEAD MOST_LINES bytes

pub window_whole : (front bytes rest : List ℕ) → window bytes ≡ front ++ rest → window front ≡ front
window_whole front bytes rest e = at_whole MOST_HEAD MOST_LINES front bytes rest e

pub window_most : (bytes : List ℕ) → length (window bytes) ≤ MOST_HEAD
window_most bytes = at_most MOST_HEAD MOST_LINES bytes

pub window_full : (bytes more : List ℕ) → is_full bytes ≡ true → window (bytes ++ more) ≡ window bytes
window_full bytes more full =
    let w = window bytes in
    at_full MOST_HEAD MOST_LINES bytes more (elim (either (eqb (length w) MOST_HEAD) (eqb (line_feeds w) MOST_LINES) full) [
      | inl e ↦ inl (eqb-true (length w) MOST_HEAD e)
      | inr e ↦ inr (eqb-true (line_feeds w) MOST_LINES e)
    ])

pub window_room : (bytes : List ℕ) → is_full bytes ≡ false → window bytes ≡ bytes
window_room bytes room =
    let w = window bytes in
    let no = neither (eqb (length w) MOST_HEAD) (eqb (line_feeds w) MOST_LINES) room in
    at_room MOST_HEAD MOST_LINES bytes (eqb-false (length w) MOST_HEAD no.0) (eqb-false (line_feeds w) MOST_LINES no.1)

pub window_short : (bytes : List ℕ) → is_full bytes ≡ false → length bytes < MOST_HEAD
window_short bytes room =
    let w = window bytes in
    let no = neither (eqb (length w) MOST_HEAD) (eqb (line_feeds w) MOST_LINES) room in
    let other : length w ≢ MOST_HEAD = eqb-false (length w) MOST_HEAD no.0 in
    omega (arith, other, window_most bytes, ap length (window_room bytes room))

pub window_is : (bytes : List ℕ) → IsWindow (window bytes) bytes
window_is bytes = record {
  front = window_front bytes;
  short = window_most bytes;
  few = λ before rest b. at_few MOST_HEAD MOST_LINES bytes before rest b;
  longest = λ short few. at_room MOST_HEAD MOST_LINES bytes (λ e. omega arith) (λ e. omega arith);
}
