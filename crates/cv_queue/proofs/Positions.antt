-- What the places and counts of a reader's own tokens keep, whichever way tokens are dealt, and the
-- least place that readers need. Nothing outside the first section looks into `place` and `count`.
use Rattle.std.proofs.Common.{◌≡◌, ℕ, suc, zero, ◌+◌, ◌<◌, ◌≤◌, min, List, [], ◌∷◌, Some, refl, ap, subst, zero-add, arith}
use Rattle.std.specs.Prelude.{slice_get, slice_set}
use Rattle.cv_queue.specs.declared.reader.Reader.{Reader}
use Rattle.cv_queue.specs.Ports.{place, count, first_needed_from}

-- 1. The laws of places and counts

-- a reader's token is written exactly where its number is below the reader's count
pub place_written : (s w k n : ℕ) → n < count s w k → place s k n < w
unfolding place count
place_written s w k n h = h

pub place_unwritten : (s w k n : ℕ) → count s w k ≤ n → w ≤ place s k n
unfolding place count
place_unwritten s w k n h = h

-- later tokens of a reader stand at later places
pub place_rises : (s k m n : ℕ) → m ≤ n → place s k m ≤ place s k n
unfolding place
place_rises s k m n h = h

-- nobody has more tokens than were written
pub count_within : (s w k : ℕ) → count s w k ≤ w
unfolding count
count_within s w k = omega arith

pub count_rises : (s v w k : ℕ) → v ≤ w → count s v k ≤ count s w k
unfolding count
count_rises s v w k h = h

-- the next token that is written is somebody's next one
pub someone_next : (s w : ℕ) → 0 < s → (k : ℕ) × (k < s) × (place s k (count s w k) ≡ w)
unfolding place count
someone_next s w h = (0, h, refl)

-- of one more token the reader has one more whose next token stands there, and no other
pub count_dealt : (s w k : ℕ) → place s k (count s w k) ≡ w → count s (w + 1) k ≡ count s w k + 1
unfolding place count
count_dealt s w k h = refl

pub count_passed : (s w k : ℕ) → (place s k (count s w k) ≡ w → ⊥) → count s (w + 1) k ≡ count s w k
unfolding place count
count_passed s w k h = absurd (h refl)

-- 2. The first token that is needed

pub first_needed_le : (s w k : ℕ) (rs : List Reader) → first_needed_from s w k rs ≤ w
first_needed_le s w k [] = omega arith
first_needed_le s w k (r ∷ rs) = omega (arith, first_needed_le s w (k + 1) rs)

-- it is no later than what any of the readers needs
pub first_needed_each : (s w k : ℕ) (rs : List Reader) (i : ℕ) (r : Reader) → slice_get rs i ≡ Some r → first_needed_from s w k rs ≤ place s (k + i) r.acked
first_needed_each s w k [] i r h = cc
first_needed_each s w k (x ∷ rs) zero r h = grind arith
first_needed_each s w k (x ∷ rs) (suc i) r h =
    let e : (k + 1) + i ≡ k + suc i = omega arith in
    let q : first_needed_from s w (k + 1) rs ≤ place s ((k + 1) + i) r.acked = first_needed_each s w (k + 1) rs i r h in
    let p : first_needed_from s w (k + 1) rs ≤ place s (k + suc i) r.acked = subst (λ (n : ℕ). first_needed_from s w (k + 1) rs ≤ place s n r.acked) e q in
    omega (arith, p)

pub first_needed_any : (s w : ℕ) (rs : List Reader) (i : ℕ) (r : Reader) → slice_get rs i ≡ Some r → first_needed_from s w 0 rs ≤ place s i r.acked
first_needed_any s w rs i r h =
    subst (λ (n : ℕ). first_needed_from s w 0 rs ≤ place s n r.acked) (zero-add i) (first_needed_each s w 0 rs i r h)

-- one more token is written
pub first_needed_before : (s w k : ℕ) (rs : List Reader) → first_needed_from s w k rs ≡ min w (first_needed_from s (w + 1) k rs)
first_needed_before s w k [] = omega arith
first_needed_before s w k (r ∷ rs) = omega (arith, first_needed_before s w (k + 1) rs)

-- a reader's positions are written anew: what it has acknowledged rises, or stays
pub first_needed_rises : (s w k : ℕ) (rs : List Reader) (i : ℕ) (r n : Reader) → slice_get rs i ≡ Some r → r.acked ≤ n.acked → first_needed_from s w k rs ≤ first_needed_from s w k (slice_set rs i n)
first_needed_rises s w k [] i r n h q = cc
first_needed_rises s w k (x ∷ rs) zero r n h q =
    let e : x ≡ r = grind arith in
    let p : place s k x.acked ≤ place s k n.acked = place_rises s k x.acked n.acked (grind arith) in
    omega (arith, p)
first_needed_rises s w k (x ∷ rs) (suc i) r n h q =
    omega (arith, first_needed_rises s w (k + 1) rs i r n h q)

pub first_needed_stays : (s w k : ℕ) (rs : List Reader) (i : ℕ) (r n : Reader) → slice_get rs i ≡ Some r → n.acked ≡ r.acked → first_needed_from s w k (slice_set rs i n) ≡ first_needed_from s w k rs
first_needed_stays s w k [] i r n h q = refl
first_needed_stays s w k (x ∷ rs) zero r n h q = grind arith
first_needed_stays s w k (x ∷ rs) (suc i) r n h q =
    ap (λ (m : ℕ). min (place s k x.acked) m) (first_needed_stays s w (k + 1) rs i r n h q)
