-- The first value of a name, and where it stands.
use Rattle.std.proofs.Common.{◌≡◌, ℕ, suc, ◌+◌, Bool, true, false, if◌then◌else◌, List, [], ◌∷◌, ◌++◌, length, Option, Some, None, is_some, option_map, refl, sym, ◌∙◌, ap, arith}
use Rattle.std.specs.Prelude.{option_and_then}
use Rattle.std.specs.Str.{bytes_eq}
use Rattle.cv_token.specs.declared.pairs.Pair.{Pair}
use Rattle.cv_expand.specs.Lookup.{first_of, place_if, place_from, place_of, lookup, value_at}

map_if : (b : Bool) (x : ℕ) (o : Option ℕ) → (if b then Some (suc x) else option_map (λ n. suc n) o) ≡ option_map (λ n. suc n) (if b then Some x else o)
map_if true x o = refl
map_if false x o = refl

pub place_from-suc : {X : Type 0} (i : ℕ) (ps : List (Pair X)) (name : List ℕ) → place_from (suc i) ps name ≡ option_map (λ n. suc n) (place_from i ps name)
place_from-suc i [] name = refl
place_from-suc i (p ∷ ps) name = rw (place_from-suc (suc i) ps name) (map_if (bytes_eq p.key name) i (place_from (suc i) ps name))

next_value : {X : Type 0} (p : Pair X) (ps : List (Pair X)) (o : Option ℕ) → option_and_then (value_at (p ∷ ps)) (option_map (λ n. suc n) o) ≡ option_and_then (value_at ps) o
next_value p ps None = refl
next_value p ps (Some n) = refl

either : {X : Type 0} (b : Bool) (p : Pair X) (ps : List (Pair X)) (o : Option ℕ) (q : Option X) → q ≡ option_and_then (value_at ps) o → (if b then Some p.value else q) ≡ option_and_then (value_at (p ∷ ps)) (if b then Some 0 else option_map (λ n. suc n) o)
either true p ps o q e = refl
either false p ps o q e = e ∙ sym (next_value p ps o)

-- the first value of a name is the one at its place
pub lookup_at : {X : Type 0} (ps : List (Pair X)) (name : List ℕ) → lookup ps name ≡ option_and_then (value_at ps) (place_of ps name)
lookup_at [] name = refl
lookup_at (p ∷ ps) name = rw (place_from-suc 0 ps name) (either (bytes_eq p.key name) p ps (place_from 0 ps name) (lookup ps name) (lookup_at ps name))

first_if : (b : Bool) (x : ℕ) (o q r : Option ℕ) → q ≡ first_of o r → (if b then Some x else q) ≡ first_of (if b then Some x else o) r
first_if true x o q r e = refl
first_if false x o q r e = e

-- one more pair stands behind those that are there
pub place_from-push : {X : Type 0} (i k : ℕ) (ps : List (Pair X)) (p : Pair X) (name : List ℕ) → k ≡ i + length ps → place_from i (ps ++ p ∷ []) name ≡ first_of (place_from i ps name) (place_if p.key k name)
place_from-push i k [] p name e = let same : k ≡ i = omega arith in rw same refl
place_from-push i k (q ∷ ps) p name e =
    let next : k ≡ suc i + length ps = omega arith in
    first_if (bytes_eq q.key name) i _ _ _ (place_from-push (suc i) k ps p name next)

-- a name that has a place keeps it
pub kept : (o p : Option ℕ) (b : Bool) (place : ℕ) → (b ≡ true → o ≡ p) → is_some p ≡ true → o ≡ first_of o (if b then Some place else None)
kept (Some x) p b place e h = refl
kept None p false place e h = refl
kept None p true place e h = let same : is_some {T = ℕ} None ≡ true = ap is_some (e refl) ∙ h in cc

-- a name that has none gets one
pub added : (o p q : Option ℕ) (b : Bool) (place : ℕ) → (b ≡ true → o ≡ p) → p ≡ None → q ≡ (if b then Some place else o) → q ≡ first_of o (if b then Some place else None)
added (Some x) p q true place e none h = let clash : Some x ≡ None = e refl ∙ none in cc
added (Some x) p q false place e none h = h
added None p q true place e none h = h
added None p q false place e none h = h

pub found : {X : Type 0} (ps : List (Pair X)) (name : List ℕ) (place : ℕ) → place_of ps name ≡ Some place → lookup ps name ≡ value_at ps place
found ps name place e = lookup_at ps name ∙ ap (option_and_then (value_at ps)) e

pub missing : {X : Type 0} (ps : List (Pair X)) (name : List ℕ) → place_of ps name ≡ None → lookup ps name ≡ None
missing ps name e = lookup_at ps name ∙ ap (option_and_then (value_at ps)) e

pub none_from : (o : Option ℕ) (b : Bool) → b ≡ is_some o → b ≡ false → o ≡ None
none_from None b e h = refl
none_from (Some x) b e h = let clash : true ≡ false = sym e ∙ h in cc
