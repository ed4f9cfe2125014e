-- States and arguments that are none of a kind.
use Rattle.std.proofs.Common.{◌≡◌, suc, Bool, true, false, ◌&&◌, List, [], ◌∷◌, length, refl, ap, ◌∙◌}
use Rattle.cv_token.specs.declared.token.Token.{Token}
use Rattle.cv_behave.specs.Values.{has_fit}
use Rattle.cv_kinds.specs.declared.table.Slot.{Slot}
use Rattle.cv_kinds.specs.Sorts.{are_arguments, are_slots, is_of, is_slot}
use Rattle.cv_kinds.specs.Table.{Parameter}

none : (a b : Bool) → (a && (b && false)) ≡ false
none true true = refl
none true false = refl
none false b = refl

-- a state with more slots or fewer is none of the kind
pub uneven : (args : List Token) (slots : List Slot) (state : List Token) → (length slots ≡ length state → ⊥) → are_slots args slots state ≡ false
uneven args [] [] apart = absurd (apart refl)
uneven args [] (t ∷ ts) apart = refl
uneven args (s ∷ ss) [] apart = refl
uneven args (s ∷ ss) (t ∷ ts) apart = ap (λ (b : Bool). has_fit t && (is_slot args s t && b)) (uneven args ss ts (λ e. apart (ap suc e))) ∙ none (has_fit t) (is_slot args s t)

-- arguments are as many as the parameters
pub uneven_arguments : (ps : List Parameter) (args : List Token) → (length ps ≡ length args → ⊥) → are_arguments ps args ≡ false
uneven_arguments [] [] apart = absurd (apart refl)
uneven_arguments [] (t ∷ ts) apart = refl
uneven_arguments (p ∷ ps) [] apart = refl
uneven_arguments (p ∷ ps) (t ∷ ts) apart = ap (λ (b : Bool). has_fit t && (is_of p.sort t && b)) (uneven_arguments ps ts (λ e. apart (ap suc e))) ∙ none (has_fit t) (is_of p.sort t)
