-- Paths of names are told by their texts.
use Rattle.std.proofs.Common.{◌≡◌, ℕ, ◌+◌, ◌<◌, ◌^◌, ◌%◌, true, List, [], ◌∷◌, ◌++◌, drop, get_or, refl, sym, ap, subst, arith, decimal}
use Rattle.std.specs.List.{AllByRecursion}
use Rattle.std.proofs.lemmas.Fmt.{decimal_by_steps, decimal_injective}
use Rattle.cv_lex.specs.Bytes.{is_name_start, is_name_byte}
use Rattle.cv_lex.specs.Shapes.{Each, IsName}
use Rattle.cv_expand.specs.declared.path.Step.{Step}
use Rattle.cv_expand.specs.declared.path.Step.TheVariants as steps
use Rattle.cv_expand.specs.Paths.{step_text, rest_text, IsStep, IsPath, OnePath}

-- without a `/`
abbrev IsFree : List ℕ → Type 0
IsFree bytes = AllByRecursion (λ b. b ≡ 47 → ⊥) bytes

each_free : (bytes : List ℕ) → Each is_name_byte bytes → IsFree bytes
each_free [] h = tt
each_free (b ∷ bytes) h = ((λ e. let slash : is_name_byte 47 ≡ true = subst (λ x. is_name_byte x ≡ true) e h.0 in cc), each_free bytes h.1)

name_free : (name : List ℕ) → IsName name → IsFree name
name_free [] h = absurd h
name_free (b ∷ bytes) h = ((λ e. let slash : is_name_start 47 ≡ true = subst (λ x. is_name_start x ≡ true) e h.0 in cc), each_free bytes h.1)

free_append : (xs ys : List ℕ) → IsFree xs → IsFree ys → IsFree (xs ++ ys)
free_append [] ys f g = g
free_append (x ∷ xs) ys f g = (f.0, free_append xs ys f.1 g)

number_free : (n : ℕ) → n < 2 ^ 64 → IsFree (decimal n)
number_free = decimal_by_steps (λ m ds. IsFree ds) (λ m l. ((λ e. omega (arith, e)), tt)) (λ m ds l f. free_append ds ((48 + m % 10) ∷ []) f ((λ e. omega (arith, e)), tt))

step_free : (s : Step) → IsStep s → IsFree (step_text s)
step_free (steps.Name name) h = name_free name h
step_free (steps.Constant n) h = ((λ e. omega (arith, e)), number_free n h)

-- a name does not begin with `#`
no_constant : (name rest : List ℕ) → IsName name → name ≡ 35 ∷ rest → ⊥
no_constant name rest h e = let begins : IsName (35 ∷ rest) = subst IsName e h in let hash : is_name_start 35 ≡ true = begins.0 in cc

one_step : (a b : Step) → IsStep a → IsStep b → step_text a ≡ step_text b → a ≡ b
one_step (steps.Name x) (steps.Name y) h g e = ap (λ z. steps.Name z) e
one_step (steps.Name x) (steps.Constant n) h g e = absurd (no_constant x (decimal n) h e)
one_step (steps.Constant m) (steps.Name y) h g e = absurd (no_constant y (decimal m) g (sym e))
one_step (steps.Constant m) (steps.Constant n) h g e = ap (λ z. steps.Constant z) (decimal_injective m n h g (ap (drop 1) e))

-- further steps begin with a `/`
slash_first : (path : List Step) (y : ℕ) (rest : List ℕ) → (y ≡ 47 → ⊥) → rest_text path ≡ y ∷ rest → ⊥
slash_first [] y rest other e = cc
slash_first (s ∷ path) y rest other e = other (sym (ap (λ bytes. get_or bytes 0 0) e))

-- the first step ends where the first `/` stands
split : (p q : List ℕ) (a b : List Step) → IsFree p → IsFree q → p ++ rest_text a ≡ q ++ rest_text b → (p ≡ q) × (rest_text a ≡ rest_text b)
split [] [] a b f g e = (refl, e)
split [] (y ∷ q) a b f g e = absurd (slash_first a y (q ++ rest_text b) g.0 e)
split (x ∷ p) [] a b f g e = absurd (slash_first b x (p ++ rest_text a) f.0 (sym e))
split (x ∷ p) (y ∷ q) a b f g e =
    let same : x ≡ y = ap (λ bytes. get_or bytes 0 0) e in
    let behind = split p q a b f.1 g.1 (ap (drop 1) e) in
    ((λ i. same i ∷ behind.0 i), behind.1)

one_rest : (a b : List Step) → IsPath a → IsPath b → rest_text a ≡ rest_text b → a ≡ b
one_rest [] [] h g e = refl
one_rest [] (t ∷ b) h g e = cc
one_rest (s ∷ a) [] h g e = cc
one_rest (s ∷ a) (t ∷ b) h g e =
    let w = split (step_text s) (step_text t) a b (step_free s h.0) (step_free t g.0) (ap (drop 1) e) in
    let first = one_step s t h.0 g.0 w.0 in
    let behind = one_rest a b h.1 g.1 w.1 in
    (λ i. first i ∷ behind i)

-- a step has letters
some_text : (s : Step) (rest : List ℕ) → IsStep s → step_text s ++ rest ≡ [] → ⊥
some_text (steps.Name []) rest h e = absurd h
some_text (steps.Name (b ∷ bytes)) rest h e = cc
some_text (steps.Constant n) rest h e = cc

pub one_path : OnePath
one_path [] [] h g e = refl
one_path [] (t ∷ b) h g e = absurd (some_text t (rest_text b) g.0 (sym e))
one_path (s ∷ a) [] h g e = absurd (some_text s (rest_text a) h.0 e)
one_path (s ∷ a) (t ∷ b) h g e =
    let w = split (step_text s) (step_text t) a b (step_free s h.0) (step_free t g.0) e in
    let first = one_step s t h.0 g.0 w.0 in
    let behind = one_rest a b h.1 g.1 w.1 in
    (λ i. first i ∷ behind i)
