-- Lists of trees, one element further.
use Rattle.std.proofs.Common.{◌≡◌, ℕ, ◌+◌, ◌<◌, List, [], ◌∷◌, ◌++◌, map, length, take, get_or, Option, Some, None, ap, ◌∙◌, arith}
use Rattle.std.proofs.lemmas.List.{get_or-map, length-map, take_all, take_more}
use Rattle.std.specs.List.{All}

-- a tree among those of some values is that of one of them, which stands at its place
pub record StandsAt {X Y : Type 0} (P : X → Type 0) (f : X → Y) (xs : List X) (i : ℕ) (y : Y) : Type 0 where
  pub value : X
  pub valid : P value
  pub tree : y ≡ f value
  pub next : take (i + 1) xs ≡ take i xs ++ value ∷ []

pub stands_at : {X Y : Type 0} (P : X → Type 0) (f : X → Y) (ys : List Y) (i : ℕ) (y : Y) (xs : List X) → i < length ys → y ≡ get_or ys i y → All P xs → ys ≡ map f xs → StandsAt P f xs i y
stands_at P f ys i y [] within is all e = absurd (let h = ap length e in omega arith)
stands_at P f ys i y (x ∷ xs) within is all e =
    let short : i < length (x ∷ xs) = omega (arith, ap length e, length-map (x ∷ xs) f) in
    record {
      value = get_or (x ∷ xs) i x;
      valid = all i x short;
      tree = is ∙ ap (λ (l : List _). get_or l i y) e ∙ get_or-map f (x ∷ xs) i x y short;
      next = take_more (x ∷ xs) i x short;
    }

pub all_taken : {X Y : Type 0} (f : X → Y) (ys : List Y) (i : ℕ) (xs : List X) → length ys < i + 1 → ys ≡ map f xs → take i xs ≡ xs
all_taken f ys i xs past e = take_all i xs (omega (arith, ap length e, length-map xs f, past))

pub some_same : {X : Type 0} (x y : X) → Some x ≡ Some y → x ≡ y
some_same x y e = cc

pub none_some : {X : Type 0} (o : Option X) (x : X) → o ≡ None → o ≡ Some x → ⊥
none_some None x n e = cc
none_some (Some y) x n e = cc
