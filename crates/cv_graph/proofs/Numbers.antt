-- Names by their numbers.
use Rattle.std.proofs.Common.{◌≡◌, ℕ, suc, ◌+◌, Bool, true, false, if◌then◌else◌, List, [], ◌∷◌, ◌++◌, inl, inr, length, slice_get, Option, Some, refl, sym, ◌∙◌, ap, subst, arith, append_assoc, add-one}
use Rattle.std.proofs.lemmas.Bool.{cases_Bool}
use Rattle.std.proofs.lemmas.List.{map-id}
use Rattle.std.proofs.lemmas.Slice.Eq.{bytes_eq-Decides}
use Rattle.std.specs.Str.{bytes_eq}
use Rattle.cv_token.specs.declared.pairs.Pair.{Pair}
use Rattle.cv_expand.specs.Bodies.{Among, Distinct}
use Rattle.cv_expand.specs.Lookup.{lookup}
use Rattle.cv_graph.specs.Tables.{numbered, number_of}
use Rattle.cv_graph.proofs.Lists.{some_same, among_at, one_place}

if_true : {X : Type 0} (b : Bool) (x y : X) → b ≡ true → (if b then x else y) ≡ x
if_true true x y e = refl
if_true false x y e = cc

if_false : {X : Type 0} (b : Bool) (x y : X) → b ≡ false → (if b then x else y) ≡ y
if_false true x y e = cc
if_false false x y e = refl

found_if : (b : Bool) (n name : List ℕ) (names : List (List ℕ)) (i k : ℕ) (later : Option ℕ) → (b ≡ true → n ≡ name) → (if b then Some i else later) ≡ Some k → (later ≡ Some k → (m : ℕ) × (k ≡ suc i + m) × (slice_get names m ≡ Some name))
    → (m : ℕ) × (k ≡ i + m) × (slice_get (n ∷ names) m ≡ Some name)
found_if true n name names i k later same e rest = let k_is : i ≡ k = some_same i k e in (0, omega (arith, k_is), ap Some (same refl))
found_if false n name names i k later same e rest = let r = rest e in (suc r.0, omega (arith, r.1), r.2)

-- a number that is found is that of the name
at_number : (names : List (List ℕ)) (i k : ℕ) (name : List ℕ) → lookup (numbered i names) name ≡ Some k → (m : ℕ) × (k ≡ i + m) × (slice_get names m ≡ Some name)
at_number [] i k name e = cc
at_number (n ∷ names) i k name e = found_if (bytes_eq n name) n name names i k (lookup (numbered (suc i) names) name) (bytes_eq-Decides n name).0 e (λ g. at_number names (suc i) k name g)

pub number_at : (names : List (List ℕ)) (k : ℕ) (name : List ℕ) → number_of names name ≡ Some k → slice_get names k ≡ Some name
number_at names k name e = let r = at_number names 0 k name e in let same : k ≡ r.0 = omega (arith, r.1) in subst (λ n. slice_get names n ≡ Some name) (sym same) r.2

-- a name that is there has a number
has_number : (names : List (List ℕ)) (i : ℕ) (name : List ℕ) → Among names name → (k : ℕ) × (lookup (numbered i names) name ≡ Some k)
has_number [] i name h = absurd h
has_number (n ∷ names) i name (inl same) = (i, if_true (bytes_eq n name) (Some i) (lookup (numbered (suc i) names) name) ((bytes_eq-Decides n name).1 same))
has_number (n ∷ names) i name (inr h) = elim (cases_Bool (bytes_eq n name)) [
  | inl yes_ ↦ (i, if_true (bytes_eq n name) (Some i) (lookup (numbered (suc i) names) name) yes_)
  | inr no_ ↦ let r = has_number names (suc i) name h in (r.0, if_false (bytes_eq n name) (Some i) (lookup (numbered (suc i) names) name) no_ ∙ r.1)
]

pub number_there : (names : List (List ℕ)) (name : List ℕ) → Among names name → (k : ℕ) × (number_of names name ≡ Some k)
number_there names name h = has_number names 0 name h

-- where no name stands twice, the number of a name is its place
pub number_is : (names : List (List ℕ)) (m : ℕ) (name : List ℕ) → Distinct names → slice_get names m ≡ Some name → number_of names name ≡ Some m
number_is names m name apart e =
    let r = number_there names name (among_at names m name e) in
    let same : r.0 ≡ m = one_place (λ (x : List ℕ). x) names r.0 m name name (subst Distinct (sym (map-id names)) apart) (number_at names r.0 name r.1) e refl in
    r.1 ∙ ap Some same

-- ---- tables that grow

pub next_number : (table all : List (Pair ℕ)) (i : ℕ) (name : List ℕ) (rest : List (List ℕ)) → table ++ numbered i (name ∷ rest) ≡ all → (table ++ record { key = name; value = i } ∷ []) ++ numbered (i + 1) rest ≡ all
next_number table all i name rest e = rw add-one (append_assoc table (record { key = name; value = i } ∷ []) (numbered (suc i) rest) ∙ e)

pub numbered-push : (names : List (List ℕ)) (i k : ℕ) (name : List ℕ) → k ≡ i + length names → numbered i (names ++ name ∷ []) ≡ numbered i names ++ record { key = name; value = k } ∷ []
numbered-push [] i k name e = let same : i ≡ k = omega arith in ap (λ (n : ℕ). record { key = name; value = n } ∷ []) same
numbered-push (n ∷ names) i k name e = let next : k ≡ suc i + length names = omega arith in ap (λ (ps : List (Pair ℕ)). record { key = n; value = i } ∷ ps) (numbered-push names (suc i) k name next)
