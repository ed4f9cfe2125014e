-- One tree has one list of parts, one number.
use Rattle.std.proofs.Common.{◌≡◌, ℕ, ◌<◌, ◌^◌, suc, min, List, [], ◌∷◌, length, get_or, Some, refl, sym, subst, ap, ap₂, ◌∙◌, arith}
use Rattle.cv_token.specs.declared.token.Token.{Token}
use Rattle.cv_token.specs.declared.token.Token.TheVariants as tree
use Rattle.cv_behave.specs.Values.{list_of}
use Rattle.cv_behave.proofs.Lists.{list_of_List}
use Rattle.cv_frame.specs.Trees.{number, greatest}

pub same_list : (t : Token) (xs ys : List Token) → t ≡ tree.List xs → t ≡ tree.List ys → xs ≡ ys
same_list t xs ys e f =
    let h : Some xs ≡ Some ys = sym (list_of_List xs) ∙ ap list_of (sym e ∙ f) ∙ list_of_List ys in cc

-- what stands at a place of a list stands there in each list that the tree has
pub part : (t : Token) (xs ys : List Token) (i : ℕ) (x : Token) → t ≡ tree.List xs → x ≡ get_or xs i x → t ≡ tree.List ys → x ≡ get_or ys i x
part t xs ys i x e is f = is ∙ ap (λ (l : List Token). get_or l i x) (same_list t xs ys e f)

-- numbers that travel have trees of their own
pub same_number : (t : Token) (n m : ℕ) → n < 2 ^ 62 → m < 2 ^ 62 → t ≡ number n → t ≡ number m → n ≡ m
same_number t n m low high e f = let h : number n ≡ number m = sym e ∙ f in let k : min n greatest ≡ min m greatest = cc in omega arith

-- these stand in a list from a place on
abbrev pub StandAt : List Token → ℕ → List Token → Type 0
StandAt ts i [] = Unit {0}
StandAt ts i (x ∷ xs) = (x ≡ get_or ts i x) × StandAt ts (suc i) xs

pub stands : (ts : List Token) (i : ℕ) (x a : Token) → x ≡ a → x ≡ get_or ts i x → a ≡ get_or ts i a
stands ts i x a e is = subst (λ (u : Token). u ≡ get_or ts i u) e is

behind : (t : Token) (ts xs : List Token) (i : ℕ) → StandAt (t ∷ ts) (suc i) xs → StandAt ts i xs
behind t ts [] i h = tt
behind t ts (x ∷ xs) i h = (h.0, behind t ts xs (suc i) h.1)

pub listed : (ts xs : List Token) → length ts ≡ length xs → StandAt ts 0 xs → ts ≡ xs
listed [] [] n h = refl
listed [] (x ∷ xs) n h = absurd (omega arith)
listed (t ∷ ts) [] n h = absurd (omega arith)
listed (t ∷ ts) (x ∷ xs) n h = ap₂ ◌∷◌ (sym h.0) (listed ts xs (omega arith) (behind t ts xs 0 h.1))

-- a list is what stands at its places
pub whole : (t : Token) (ts xs : List Token) → (length ts ≡ length xs) × (t ≡ tree.List ts) → StandAt ts 0 xs → t ≡ tree.List xs
whole t ts xs h at = h.1 ∙ ap tree.List (listed ts xs h.0 at)

-- what stands behind the first part
pub part_behind : (t w v : Token) (xs ys : List Token) (i : ℕ) (x : Token) → t ≡ tree.List (w ∷ xs) → x ≡ get_or xs i x → t ≡ tree.List (v ∷ ys) → x ≡ get_or ys i x
part_behind t w v xs ys i x e is f = part t (w ∷ xs) (v ∷ ys) (suc i) x e is f
