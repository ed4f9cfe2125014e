-- The quote that ends a text, and what stands before it.
use Rattle.std.proofs.Common.{◌≡◌, ℕ, suc, ◌+◌, ◌<◌, Bool, true, false, eqb, Option, Some, None, List, [], ◌∷◌, ◌++◌, length, take, drop, sym, ap, ◌∙◌, subst, inl, inr, arith}
use Rattle.std.proofs.lemmas.Bool.{cond_both, eqb-true, eqb-false, ne_eqb, cases_Bool}
use Rattle.cv_lex.specs.Shapes.{IsInside, nothing, plain, hidden}
use Rattle.cv_lex.specs.Spans.{ends_text, hides_next, closing}

-- the first quote that no `\` hides
abbrev IsClosing : List ℕ → ℕ → Type 0
IsClosing bytes n = IsInside (take n bytes) × (drop n bytes ≡ 34 ∷ drop (suc n) bytes) × (n < length bytes)

-- a quote closes an empty inside
closed_here : (i b : ℕ) (bytes : List ℕ) (place : ℕ) → ends_text false b ≡ true → i ≡ place → (n : ℕ) × (place ≡ i + n) × IsClosing (b ∷ bytes) n
closed_here i b bytes place ends same =
    (0, omega (arith, same), (nothing, ap (λ x. x ∷ bytes) (eqb-true b 34 ends), omega arith))

-- a pair stands before the closing quote
closed_pair : (i b c : ℕ) (bytes : List ℕ) (place : ℕ) → b ≡ 92 → (n : ℕ) × (place ≡ i + 1 + 1 + n) × IsClosing bytes n → (n : ℕ) × (place ≡ i + n) × IsClosing (b ∷ c ∷ bytes) n
closed_pair i b c bytes place e f =
    let P : ℕ → Type 0 = λ x. IsInside (x ∷ c ∷ take f.0 bytes) in
    let pair : IsInside (92 ∷ c ∷ take f.0 bytes) = hidden c f.2.0 in
    (suc (suc f.0), omega (arith, f.1), (subst P (sym e) pair, f.2.1, omega (arith, f.2.2)))

-- a plain byte stands before the closing quote
closed_plain : (i b : ℕ) (bytes : List ℕ) (place : ℕ) → eqb b 34 ≡ false → eqb b 92 ≡ false → (n : ℕ) × (place ≡ i + 1 + n) × IsClosing bytes n → (n : ℕ) × (place ≡ i + n) × IsClosing (b ∷ bytes) n
closed_plain i b bytes place q s f =
    (suc f.0, omega (arith, f.1), (plain b (eqb-false b 34 q) (eqb-false b 92 s) f.2.0, f.2.1, omega (arith, f.2.2)))

-- a closing quote ends an inside
pub closing_inside : (i : ℕ) (bytes : List ℕ) (place : ℕ) → closing i false bytes ≡ Some place → (n : ℕ) × (place ≡ i + n) × IsClosing bytes n
closing_inside i [] place h = cc
closing_inside i (b ∷ []) place h =
    let P : Option ℕ → Type 0 = λ r. r ≡ Some place → (n : ℕ) × (place ≡ i + n) × IsClosing (b ∷ []) n in
    cond_both (ends_text false b) (Some i) None P
    (λ ends e. let same : i ≡ place = cc in closed_here i b [] place ends same)
    (λ _ e. cc) h
closing_inside i (b ∷ c ∷ bytes) place h =
    let P : Option ℕ → Type 0 = λ r. r ≡ Some place → (n : ℕ) × (place ≡ i + n) × IsClosing (b ∷ c ∷ bytes) n in
    let Q : Bool → Type 0 = λ t. closing (i + 1) t (c ∷ bytes) ≡ Some place in
    cond_both (ends_text false b) (Some i) (closing (i + 1) (hides_next false b) (c ∷ bytes)) P
    (λ ends e. let same : i ≡ place = cc in closed_here i b (c ∷ bytes) place ends same)
    (λ no e. elim (cases_Bool (eqb b 92)) [
      | inl s ↦ closed_pair i b c bytes place (eqb-true b 92 s) (closing_inside (i + 1 + 1) bytes place (subst Q s e))
      | inr s ↦ closed_plain i b (c ∷ bytes) place no s (closing_inside (i + 1) (c ∷ bytes) place (subst Q s e))
    ]) h

-- an inside is ended by the quote behind it
pub closing_behind : (i : ℕ) (xs : List ℕ) (rest : List ℕ) → IsInside xs → closing i false (xs ++ 34 ∷ rest) ≡ Some (i + length xs)
closing_behind i xs rest nothing = ap Some (omega arith)
closing_behind i xs rest (plain {bytes} b q s h) =
    let t : eqb b 34 ≡ false = ne_eqb b 34 q in
    let u : eqb b 92 ≡ false = ne_eqb b 92 s in
    rw (t, u) (closing_behind (i + 1) bytes rest h ∙ ap Some (omega arith))
closing_behind i xs rest (hidden {bytes} b h) = closing_behind (i + 1 + 1) bytes rest h ∙ ap Some (omega arith)
