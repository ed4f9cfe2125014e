-- Which actions of a row are ready: at most one where the guards exclude each other, and for how long.
use Rattle.std.proofs.Common.{◌≡◌, ℕ, suc, zero, ◌≤◌, ◌==◌, Bool, true, false, ◌&&◌, not, if◌then◌else◌, List, [], ◌∷◌, ◌++◌, length, Option, Some, None, ◌⊎◌, inl, inr, refl, sym, ap, ◌∙◌, subst, arith, length-append, eqb-true, leb-true, le-leb, nat_le, slice_get}
use Rattle.std.proofs.lemmas.Bool.{and_parts}
use Rattle.cv_token.specs.declared.token.Token.{Token}
use Rattle.cv_behave.specs.KindRow.{Row, StaysReady, Grown, needed, guard_holds, has_counts, head_at, first_of}

-- ---- which action it is

chosen : (b x y : Bool) → (if b then x else y) ≡ true → ((b ≡ true) × (x ≡ true)) ⊎ ((b ≡ false) × (y ≡ true))
chosen true x y e = inl (refl, e)
chosen false x y e = inr (refl, e)

pub only_action : (i : ℕ) (x : Bool) → (if i == 0 then x else false) ≡ true → i ≡ 0
only_action i x e = elim (chosen (i == 0) x false e) [ inl h ↦ eqb-true i 0 h.0 | inr h ↦ cc ]

pub either_action : (i : ℕ) (x y : Bool) → (if i == 0 then x else if i == 1 then y else false) ≡ true → ((i ≡ 0) × (x ≡ true)) ⊎ ((i ≡ 1) × (y ≡ true))
either_action i x y e =
    elim (chosen (i == 0) x (if i == 1 then y else false) e) [
      | inl h ↦ inl (eqb-true i 0 h.0, h.1)
      | inr h ↦ elim (chosen (i == 1) y false h.1) [ inl g ↦ inr (eqb-true i 1 g.0, g.1) | inr g ↦ cc ]
    ]

pub any_action : (i : ℕ) (x y z : Bool) → (if i == 0 then x else if i == 1 then y else if i == 2 then z else false) ≡ true → ((i ≡ 0) × (x ≡ true)) ⊎ (((i ≡ 1) × (y ≡ true)) ⊎ ((i ≡ 2) × (z ≡ true)))
any_action i x y z e =
    elim (chosen (i == 0) x (if i == 1 then y else if i == 2 then z else false) e) [
      | inl h ↦ inl (eqb-true i 0 h.0, h.1)
      | inr h ↦ elim (chosen (i == 1) y (if i == 2 then z else false) h.1) [
        | inl g ↦ inr (inl (eqb-true i 1 g.0, g.1))
        | inr g ↦ elim (chosen (i == 2) z false g.1) [ inl f ↦ inr (inr (eqb-true i 2 f.0, f.1)) | inr f ↦ cc ]
      ]
    ]

-- ---- at most one

pub one_alone : (i j : ℕ) (x : Bool) → (if i == 0 then x else false) ≡ true → (if j == 0 then x else false) ≡ true → i ≡ j
one_alone i j x d e = only_action i x d ∙ sym (only_action j x e)

pub two_alone : (i j : ℕ) (x y : Bool) → (x ≡ true → y ≡ true → ⊥) → (if i == 0 then x else if i == 1 then y else false) ≡ true → (if j == 0 then x else if j == 1 then y else false) ≡ true → i ≡ j
two_alone i j x y apart d e =
    elim (either_action i x y d) [
      | inl h ↦ elim (either_action j x y e) [ inl g ↦ h.0 ∙ sym g.0 | inr g ↦ absurd (apart h.1 g.1) ]
      | inr h ↦ elim (either_action j x y e) [ inl g ↦ absurd (apart g.1 h.1) | inr g ↦ h.0 ∙ sym g.0 ]
    ]

pub three_alone : (i j : ℕ) (x y z : Bool) → (x ≡ true → y ≡ true → ⊥) → (x ≡ true → z ≡ true → ⊥) → (y ≡ true → z ≡ true → ⊥) → (if i == 0 then x else if i == 1 then y else if i == 2 then z else false) ≡ true → (if j == 0 then x else if j == 1 then y else if j == 2 then z else false) ≡ true → i ≡ j
three_alone i j x y z xy xz yz d e =
    elim (any_action i x y z d) [
      | inl h ↦ elim (any_action j x y z e) [
        | inl g ↦ h.0 ∙ sym g.0
        | inr s ↦ elim s [ inl g ↦ absurd (xy h.1 g.1) | inr g ↦ absurd (xz h.1 g.1) ]
      ]
      | inr r ↦ elim r [
        | inl h ↦ elim (any_action j x y z e) [
          | inl g ↦ absurd (xy g.1 h.1)
          | inr s ↦ elim s [ inl g ↦ h.0 ∙ sym g.0 | inr g ↦ absurd (yz h.1 g.1) ]
        ]
        | inr h ↦ elim (any_action j x y z e) [
          | inl g ↦ absurd (xz g.1 h.1)
          | inr s ↦ elim s [ inl g ↦ absurd (yz g.1 h.1) | inr g ↦ h.0 ∙ sym g.0 ]
        ]
      ]
    ]

pub not_both : (b : Bool) → b ≡ true → not b ≡ true → ⊥
not_both true d e = cc
not_both false d e = cc

pub not_both_swapped : (b : Bool) → not b ≡ true → b ≡ true → ⊥
not_both_swapped b d e = not_both b e d

-- ---- for how long

both : (a b : Bool) → a ≡ true → b ≡ true → (a && b) ≡ true
both a b d e = rw (d, e) refl

counted : (n : ℕ) (q end : List Token) → nat_le n (length q) ≡ true → nat_le n (length (q ++ end)) ≡ true
counted n q end e = let h = leb-true n (length q) e in le-leb n (length (q ++ end)) (omega (arith, length-append q end))

counts_grow : (row : Row) (args : List Token) (action port : ℕ) (qs rs : List (List Token)) → Grown qs rs → has_counts row args action port qs ≡ true → has_counts row args action port rs ≡ true
counts_grow row args action port [] [] g e = refl
counts_grow row args action port [] (r ∷ rs) g e = absurd g
counts_grow row args action port (q ∷ qs) [] g e = absurd g
counts_grow row args action port (q ∷ qs) (r ∷ rs) g e =
    let h = and_parts _ _ e in
    both _ _ (subst (λ (s : List Token). nat_le (needed row args action port) (length s) ≡ true) (sym g.0.1) (counted (needed row args action port) q g.0.0 h.0)) (counts_grow row args action (suc port) qs rs g.1 h.1)

abbrev Guarded : Row → List Token → List Token → ℕ → Option Token → Type 0
Guarded row args state action head = guard_holds row args state action head ≡ true

no_head : (p : Option ℕ) (qs rs : List (List Token)) → p ≡ None → head_at p qs ≡ head_at p rs
no_head None qs rs e = refl
no_head (Some n) qs rs e = cc

-- a row whose guards look at no inport
pub stays_ready : (row : Row) → row.guard_port ≡ None → StaysReady row
stays_ready row none args state inputs more action l g e =
    let h = and_parts _ _ e in
    both _ _ (counts_grow row args action 0 inputs more g h.0) (subst (Guarded row args state action) (no_head row.guard_port inputs more none) h.1)

abbrev needs_first : ℕ → List (List Token) → Type 0
needs_first n [] = Unit {0}
needs_first n (q ∷ qs) = nat_le n (length q) ≡ true

-- the first inport of a row whose guards look at it keeps its first token, since each action needs one
first_stays : (n : ℕ) (qs rs : List (List Token)) → Grown qs rs → 1 ≤ n → 1 ≤ length qs → needs_first n qs → first_of qs 0 ≡ first_of rs 0
first_stays n [] rs g some l c = absurd (omega arith)
first_stays n (q ∷ qs) [] g some l c = absurd g
first_stays n ([] ∷ qs) (r ∷ rs) g some l c = absurd (omega (arith, leb-true n 0 c))
first_stays n ((x ∷ q) ∷ qs) (r ∷ rs) g some l c = ap (λ (s : List Token). slice_get s 0) (sym g.0.1)

at_first : (row : Row) (args : List Token) (action : ℕ) (qs : List (List Token)) → has_counts row args action 0 qs ≡ true → needs_first (needed row args action 0) qs
at_first row args action [] e = tt
at_first row args action (q ∷ qs) e = (and_parts _ _ e).0

one_head : (p : Option ℕ) (qs rs : List (List Token)) → p ≡ Some 0 → first_of qs 0 ≡ first_of rs 0 → head_at p qs ≡ head_at p rs
one_head None qs rs e f = cc
one_head (Some zero) qs rs e f = f
one_head (Some (suc n)) qs rs e f = cc

pub stays_ready_with_head : (row : Row) → row.guard_port ≡ Some 0 → 1 ≤ row.inports → ((args state : List Token) (action : ℕ) (head : Option Token) → Guarded row args state action head → 1 ≤ needed row args action 0) → StaysReady row
stays_ready_with_head row some wide needs args state inputs more action l g e =
    let h = and_parts _ _ e in
    let f = first_stays (needed row args action 0) inputs more g (needs args state action (head_at row.guard_port inputs) h.1) (omega (arith, l)) (at_first row args action inputs h.0) in
    both _ _ (counts_grow row args action 0 inputs more g h.0) (subst (Guarded row args state action) (one_head row.guard_port inputs more some f) h.1)
