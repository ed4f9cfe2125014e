-- Arguments and slots one by one.
use Rattle.std.proofs.Common.{◌≡◌, Bool, true, ◌&&◌, List, [], ◌∷◌, refl}
use Rattle.std.proofs.lemmas.Bool.{and_parts}
use Rattle.cv_token.specs.declared.token.Token.{Token}
use Rattle.cv_behave.specs.Values.{all_fit, has_fit, item_of}
use Rattle.cv_behave.proofs.Fitting.{both}
use Rattle.cv_kinds.specs.declared.table.Slot.{Slot}
use Rattle.cv_kinds.specs.Sorts.{are_arguments, are_slots, is_of, is_slot}
use Rattle.cv_kinds.specs.Table.{Parameter}

abbrev pub behind : {X : Type 0} → List X → List X
behind [] = []
behind (x ∷ xs) = xs

-- ---- arguments

-- the token is of the sort of the first of these
abbrev pub OfFirst : List Parameter → Token → Type 0
OfFirst [] t = Unit {0}
OfFirst (p ∷ ps) t = is_of p.sort t ≡ true

pub args_fit : (ps : List Parameter) (args : List Token) → are_arguments ps args ≡ true → all_fit args ≡ true
args_fit [] [] e = refl
args_fit [] (t ∷ ts) e = cc
args_fit (p ∷ ps) [] e = cc
args_fit (p ∷ ps) (t ∷ ts) e = let h = and_parts _ _ e in both (has_fit t) (all_fit ts) h.0 (args_fit ps ts (and_parts _ _ h.1).1)

pub arg_0 : (ps : List Parameter) (args : List Token) → are_arguments ps args ≡ true → OfFirst ps (item_of args 0)
arg_0 [] args e = tt
arg_0 (p ∷ ps) [] e = cc
arg_0 (p ∷ ps) (t ∷ ts) e = (and_parts _ _ (and_parts _ _ e).1).0

pub arg_1 : (ps : List Parameter) (args : List Token) → are_arguments ps args ≡ true → OfFirst (behind ps) (item_of args 1)
arg_1 [] args e = tt
arg_1 (p ∷ ps) [] e = cc
arg_1 (p ∷ ps) (t ∷ ts) e = arg_0 ps ts (and_parts _ _ (and_parts _ _ e).1).1

pub arg_2 : (ps : List Parameter) (args : List Token) → are_arguments ps args ≡ true → OfFirst (behind (behind ps)) (item_of args 2)
arg_2 [] args e = tt
arg_2 (p ∷ ps) [] e = cc
arg_2 (p ∷ ps) (t ∷ ts) e = arg_1 ps ts (and_parts _ _ (and_parts _ _ e).1).1

-- ---- slots

-- the token is the first of these slots
abbrev pub IsFirst : List Token → List Slot → Token → Type 0
IsFirst args [] t = Unit {0}
IsFirst args (s ∷ ss) t = is_slot args s t ≡ true

pub slots_fit : (args : List Token) (ss : List Slot) (state : List Token) → are_slots args ss state ≡ true → all_fit state ≡ true
slots_fit args [] [] e = refl
slots_fit args [] (t ∷ ts) e = cc
slots_fit args (s ∷ ss) [] e = cc
slots_fit args (s ∷ ss) (t ∷ ts) e = let h = and_parts _ _ e in both (has_fit t) (all_fit ts) h.0 (slots_fit args ss ts (and_parts _ _ h.1).1)

pub slot_0 : (args : List Token) (ss : List Slot) (state : List Token) → are_slots args ss state ≡ true → IsFirst args ss (item_of state 0)
slot_0 args [] state e = tt
slot_0 args (s ∷ ss) [] e = cc
slot_0 args (s ∷ ss) (t ∷ ts) e = (and_parts _ _ (and_parts _ _ e).1).0

pub slot_1 : (args : List Token) (ss : List Slot) (state : List Token) → are_slots args ss state ≡ true → IsFirst args (behind ss) (item_of state 1)
slot_1 args [] state e = tt
slot_1 args (s ∷ ss) [] e = cc
slot_1 args (s ∷ ss) (t ∷ ts) e = slot_0 args ss ts (and_parts _ _ (and_parts _ _ e).1).1

-- one slot, or two: each fits, and is what it has to be
pub one_slot : (f s : Bool) → f ≡ true → s ≡ true → (f && (s && true)) ≡ true
one_slot f s d e = both f (s && true) d (both s true e refl)

pub two_slots : (f s g r : Bool) → f ≡ true → s ≡ true → g ≡ true → r ≡ true → (f && (s && (g && (r && true)))) ≡ true
two_slots f s g r d e h i = both f _ d (both s _ e (one_slot g r h i))
