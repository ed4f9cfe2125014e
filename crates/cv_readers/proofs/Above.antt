-- Words of a tree as far as the first one over a number of levels.
use Rattle.std.proofs.Common.{◌≡◌, ℕ, suc, ◌≤◌, ◌<◌, ◌⊎◌, inl, inr, Bool, true, false, ltb, Option, Some, None, IfSome, List, [], ◌∷◌, ◌++◌, length, refl, ap, sym, ◌∙◌, arith}
use Rattle.std.proofs.lemmas.Bool.{ltb-false}
use Rattle.std.proofs.lemmas.List.{length-append}
use borrow.Author.Tests.{ltb-true}
use Rattle.cv_lex.specs.declared.word.Word.{Word}
use Rattle.cv_lex.specs.declared.word.Placed.{Placed}
use Rattle.cv_readers.specs.Reading.{first_is}
use Rattle.cv_readers.specs.Slots.{Slot, IsExpected, Matches, IsWithin, raise}
use Rattle.cv_readers.proofs.Matching.{BeginsWith}

-- the words begin what a tree expects: those in front within n levels, and w over them
abbrev pub Above : ℕ → List Slot → List Placed → Placed → Type 0
Above n [] front w = ⊥
Above n (s ∷ ss) [] w = IsExpected s w × (n < s.level)
Above n (s ∷ ss) (v ∷ front) w = IsExpected s v × (s.level ≤ n) × Above n ss front w

pub above_by : (n : ℕ) (ss : List Slot) (s : Slot) (more : List Slot) (front : List Placed) (w : Placed) → Matches ss front → IsWithin n ss → IsExpected s w → n < s.level → Above n (ss ++ s ∷ more) front w
above_by n [] s more [] w m l h a = (h, a)
above_by n [] s more (v ∷ front) w m l h a = absurd m
above_by n (t ∷ ss) s more [] w m l h a = absurd m
above_by n (t ∷ ss) s more (v ∷ front) w m l h a = (m.0, l.0, above_by n ss s more front w m.1 l.1 h a)

pub not_above : (n : ℕ) (ss : List Slot) (front : List Placed) (w : Placed) → IsWithin n ss → Above n ss front w → ⊥
not_above n [] front w l a = a
not_above n (s ∷ ss) [] w l a = omega (arith, l.0, a.1)
not_above n (s ∷ ss) (v ∷ front) w l a = not_above n ss front w l.1 a.2

pub above_first : (p : Word → Bool) (b : Bool) (n : ℕ) (ss : List Slot) (front : List Placed) (w : Placed) (rest : List Placed) → BeginsWith p b ss → Above n ss front w → first_is p (front ++ w ∷ rest) ≡ b
above_first p b n [] front w rest l a = absurd a
above_first p b n (s ∷ ss) [] w rest l a = ap p (sym a.0.0) ∙ l
above_first p b n (s ∷ ss) (v ∷ front) w rest l a = ap p (sym a.0.0) ∙ l

pub above_lower : (n : ℕ) (ss : List Slot) (front : List Placed) (w : Placed) → Above (suc n) (raise ss) front w → Above n ss front w
above_lower n [] front w a = a
above_lower n (s ∷ ss) [] w a = (a.0, omega (arith, a.1))
above_lower n (s ∷ ss) (v ∷ front) w a = (a.0, omega (arith, a.1), above_lower n ss front w a.2)

-- ---- what was expected after that

place_in : Option ℕ → ℕ
place_in None = 0
place_in (Some at) = at

-- words as they are expected
pub fill : List Slot → List Placed
fill [] = []
fill (s ∷ ss) = record { word = s.word; at = place_in s.at } ∷ fill ss

fill_place : (o : Option ℕ) → IfSome o (λ at. at ≡ place_in o)
unfolding place_in
fill_place None = tt
fill_place (Some at) = refl

pub fill_fits : (ss : List Slot) → Matches ss (fill ss)
unfolding fill
fill_fits [] = tt
fill_fits (s ∷ ss) = ((refl, fill_place s.at), fill_fits ss)

pub above_whole : (n : ℕ) (ss : List Slot) (front : List Placed) (w : Placed) → Above n ss front w → (more : List Placed) × Matches ss (front ++ w ∷ more)
above_whole n [] front w a = absurd a
above_whole n (s ∷ ss) [] w a = (fill ss, (a.0, fill_fits ss))
above_whole n (s ∷ ss) (v ∷ front) w a = let r = above_whole n ss front w a.2 in (r.0, (a.0, r.1))

-- ---- two parts

-- the first part is within n levels, and the word is the second part's
pub record Behind (n : ℕ) (ss ts : List Slot) (front : List Placed) (w : Placed) : Type 0 where
  pub us : List Placed
  pub vs : List Placed
  pub whole : front ≡ us ++ vs
  pub first : Matches ss us
  pub low : IsWithin n ss
  pub above : Above n ts vs w

abbrev pub InPart : ℕ → List Slot → List Slot → List Placed → Placed → Type 0
InPart n ss ts front w = Above n ss front w ⊎ Behind n ss ts front w

in_longer : (n : ℕ) (s : Slot) (ss ts : List Slot) (v : Placed) (front : List Placed) (w : Placed) → IsExpected s v → s.level ≤ n → InPart n ss ts front w → InPart n (s ∷ ss) ts (v ∷ front) w
in_longer n s ss ts v front w f l (inl a) = inl (f, l, a)
in_longer n s ss ts v front w f l (inr b) = inr (record { us = v ∷ b.us; vs = b.vs; whole = ap (λ z. v ∷ z) b.whole; first = (f, b.first); low = (l, b.low); above = b.above })

pub above_split : (n : ℕ) (ss ts : List Slot) (front : List Placed) (w : Placed) → Above n (ss ++ ts) front w → InPart n ss ts front w
above_split n [] ts front w a = inr (record { us = []; vs = front; whole = refl; first = tt; low = tt; above = a })
above_split n (s ∷ ss) ts [] w a = inl a
above_split n (s ∷ ss) ts (v ∷ front) w a = in_longer n s ss ts v front w a.0 a.1 (above_split n ss ts front w a.2)

-- ---- within n levels, or a word that is over them

pub record Climbs (n : ℕ) (ss : List Slot) (ws : List Placed) : Type 0 where
  pub front : List Placed
  pub w : Placed
  pub rest : List Placed
  pub whole : ws ≡ front ++ w ∷ rest
  pub above : Above n ss front w

abbrev pub WithinOrClimbs : ℕ → List Slot → List Placed → Type 0
WithinOrClimbs n ss ws = IsWithin n ss ⊎ Climbs n ss ws

climbs_later : (n : ℕ) (s : Slot) (ss : List Slot) (v : Placed) (ws : List Placed) → IsExpected s v → s.level ≤ n → WithinOrClimbs n ss ws → WithinOrClimbs n (s ∷ ss) (v ∷ ws)
climbs_later n s ss v ws f l (inl low) = inl (l, low)
climbs_later n s ss v ws f l (inr c) = inr (record { front = v ∷ c.front; w = c.w; rest = c.rest; whole = ap (λ z. v ∷ z) c.whole; above = (f, l, c.above) })

climbs_here : (n : ℕ) (s : Slot) (ss : List Slot) (v : Placed) (ws : List Placed) (b : Bool) → ltb n s.level ≡ b → IsExpected s v → WithinOrClimbs n ss ws → WithinOrClimbs n (s ∷ ss) (v ∷ ws)
climbs_here n s ss v ws true e f more = inr (record { front = []; w = v; rest = ws; whole = refl; above = (f, ltb-true n s.level e) })
climbs_here n s ss v ws false e f more = climbs_later n s ss v ws f (ltb-false n s.level e) more

pub within_or_climbs : (n : ℕ) (ss : List Slot) (ws : List Placed) → Matches ss ws → WithinOrClimbs n ss ws
within_or_climbs n [] ws m = inl tt
within_or_climbs n (s ∷ ss) [] m = absurd m
within_or_climbs n (s ∷ ss) (v ∷ ws) m = climbs_here n s ss v ws (ltb n s.level) refl m.0 (within_or_climbs n ss ws m.1)

-- what is in front is within n levels, so the word stands behind it
pub climbs_behind : (n : ℕ) (ss more : List Slot) (us vs front : List Placed) (w : Placed) (rest : List Placed) → Matches ss us → IsWithin n ss → us ++ vs ≡ front ++ w ∷ rest → Above n (ss ++ more) front w → length rest < length vs
climbs_behind n [] more [] vs front w rest m l e a =
    let same : length vs ≡ length (front ++ w ∷ rest) = ap length e in
    omega (arith, same, length-append front (w ∷ rest))
climbs_behind n [] more (u ∷ us) vs front w rest m l e a = absurd m
climbs_behind n (s ∷ ss) more [] vs front w rest m l e a = absurd m
climbs_behind n (s ∷ ss) more (u ∷ us) vs [] w rest m l e a = absurd (omega (arith, l.0, a.1))
climbs_behind n (s ∷ ss) more (u ∷ us) vs (v ∷ front) w rest m l e a =
    let tail : us ++ vs ≡ front ++ w ∷ rest = cc in
    climbs_behind n ss more us vs front w rest m.1 l.1 tail a.2
