-- Words that match what a tree expects, cut and joined.
use Rattle.std.proofs.Common.{◌≡◌, ℕ, suc, Bool, List, [], ◌∷◌, ◌++◌, length, refl, ap, sym, ◌∙◌, arith}
use Rattle.std.proofs.lemmas.List.{length-append}
use Rattle.cv_lex.specs.declared.word.Word.{Word}
use Rattle.cv_lex.specs.declared.word.Placed.{Placed}
use Rattle.cv_readers.specs.Reading.{first_is}
use Rattle.cv_readers.specs.Slots.{Slot, Matches, IsWithin, raise}

pub matches_append : (ss ts : List Slot) (us vs : List Placed) → Matches ss us → Matches ts vs → Matches (ss ++ ts) (us ++ vs)
matches_append [] ts [] vs a b = b
matches_append [] ts (u ∷ us) vs a b = absurd a
matches_append (s ∷ ss) ts [] vs a b = absurd a
matches_append (s ∷ ss) ts (u ∷ us) vs a b = (a.0, matches_append ss ts us vs a.1 b)

pub record Cut (ss ts : List Slot) (ws : List Placed) : Type 0 where
  pub us : List Placed
  pub vs : List Placed
  pub whole : ws ≡ us ++ vs
  pub first : Matches ss us
  pub second : Matches ts vs

pub matches_split : (ss ts : List Slot) (ws : List Placed) → Matches (ss ++ ts) ws → Cut ss ts ws
matches_split [] ts ws m = record { us = []; vs = ws; whole = refl; first = tt; second = m }
matches_split (s ∷ ss) ts [] m = absurd m
matches_split (s ∷ ss) ts (w ∷ ws) m =
    let c = matches_split ss ts ws m.1 in
    record { us = w ∷ c.us; vs = c.vs; whole = ap (λ t. w ∷ t) c.whole; first = (m.0, c.first); second = c.second }

pub within_append : (n : ℕ) (ss ts : List Slot) → IsWithin n ss → IsWithin n ts → IsWithin n (ss ++ ts)
within_append n [] ts a b = b
within_append n (s ∷ ss) ts a b = (a.0, within_append n ss ts a.1 b)

pub within_first : (n : ℕ) (ss ts : List Slot) → IsWithin n (ss ++ ts) → IsWithin n ss
within_first n [] ts a = tt
within_first n (s ∷ ss) ts a = (a.0, within_first n ss ts a.1)

pub within_second : (n : ℕ) (ss ts : List Slot) → IsWithin n (ss ++ ts) → IsWithin n ts
within_second n [] ts a = a
within_second n (s ∷ ss) ts a = within_second n ss ts a.1

pub within_raise : (n : ℕ) (ss : List Slot) → IsWithin n ss → IsWithin (suc n) (raise ss)
within_raise n [] a = tt
within_raise n (s ∷ ss) a = (omega (arith, a.0), within_raise n ss a.1)

pub within_lower : (n : ℕ) (ss : List Slot) → IsWithin (suc n) (raise ss) → IsWithin n ss
within_lower n [] a = tt
within_lower n (s ∷ ss) a = (omega (arith, a.0), within_lower n ss a.1)

pub raise_append : (ss ts : List Slot) → raise (ss ++ ts) ≡ raise ss ++ raise ts
raise_append [] ts = refl
raise_append (s ∷ ss) ts = ap (λ rs. record { word = s.word; at = s.at; level = suc s.level } ∷ rs) (raise_append ss ts)

pub matches_raise : (ss : List Slot) (ws : List Placed) → Matches ss ws → Matches (raise ss) ws
matches_raise [] [] m = tt
matches_raise [] (w ∷ ws) m = absurd m
matches_raise (s ∷ ss) [] m = absurd m
matches_raise (s ∷ ss) (w ∷ ws) m = (m.0, matches_raise ss ws m.1)

pub matches_lower : (ss : List Slot) (ws : List Placed) → Matches (raise ss) ws → Matches ss ws
matches_lower [] [] m = tt
matches_lower [] (w ∷ ws) m = absurd m
matches_lower (s ∷ ss) [] m = absurd m
matches_lower (s ∷ ss) (w ∷ ws) m = (m.0, matches_lower ss ws m.1)

-- the first word that a tree expects answers a test so
abbrev pub BeginsWith : (Word → Bool) → Bool → List Slot → Type 0
BeginsWith p b [] = ⊥
BeginsWith p b (s ∷ ss) = p s.word ≡ b

pub leads_first : (p : Word → Bool) (b : Bool) (ss : List Slot) (ws rest : List Placed) → BeginsWith p b ss → Matches ss ws → first_is p (ws ++ rest) ≡ b
leads_first p b [] ws rest l m = absurd l
leads_first p b (s ∷ ss) [] rest l m = absurd m
leads_first p b (s ∷ ss) (w ∷ ws) rest l m = ap p (sym m.0.0) ∙ l

-- a word behind a front does not show in the first word
pub same_first : (p : Word → Bool) (front : List Placed) (w : Placed) (rest more : List Placed) → first_is p (front ++ w ∷ rest) ≡ first_is p (front ++ w ∷ more)
same_first p [] w rest more = refl
same_first p (v ∷ front) w rest more = refl

-- two ends of one list that are equally long are the same
pub same_ends : (us bad ts : List Placed) (w : Placed) (rest : List Placed) → us ++ w ∷ rest ≡ ts ++ bad → length bad ≡ suc (length rest) → (us ≡ ts) × (bad ≡ w ∷ rest)
same_ends [] bad [] w rest e l = (refl, sym e)
same_ends [] bad (t ∷ ts) w rest e l =
    let same : length (w ∷ rest) ≡ length (t ∷ (ts ++ bad)) = ap length e in
    absurd (omega (arith, same, length-append ts bad))
same_ends (u ∷ us) bad [] w rest e l =
    let same : length (u ∷ (us ++ w ∷ rest)) ≡ length bad = ap length e in
    absurd (omega (arith, same, length-append us (w ∷ rest)))
same_ends (u ∷ us) bad (t ∷ ts) w rest e l =
    let head : u ≡ t = cc in
    let tail : us ++ w ∷ rest ≡ ts ++ bad = cc in
    let s = same_ends us bad ts w rest tail l in
    let first : us ≡ ts = s.0 in
    (cc, s.1)
