-- Paths of which no two are equal.
use Rattle.std.proofs.Common.{◌≡◌, ℕ, zero, suc, ◌+◌, ◌<◌, Bool, true, false, ◌||◌, List, [], ◌∷◌, ◌++◌, length, take, get_or, slice_get, Some, option_map, if◌then◌else◌, refl, sym, ◌∙◌, ap, subst}
use Rattle.std.proofs.lemmas.Bool.{or_parts}
use Rattle.std.proofs.lemmas.List.{map-append, take_more, take-map}
use Rattle.std.proofs.lemmas.List.Folds.{list_any-append}
use Rattle.std.proofs.lemmas.Option.{slice_get-get_or, slice_get-map}
use Rattle.std.specs.List.{AllByRecursion, IsDistinct, list_any}
use Rattle.std.specs.Str.{bytes_eq}
use Rattle.cv_kinds.specs.declared.network.ActorSpec.{ActorSpec}
use Rattle.cv_kinds.specs.WellFormed.{path_list}

-- whether a path is one of these
abbrev pub has_path : List (List ℕ) → List ℕ → Bool
has_path paths path = list_any (λ p. bytes_eq p path) paths

all_push : {X : Type 0} (P : X → Type 0) (xs : List X) (x : X) → AllByRecursion P xs → P x → AllByRecursion P (xs ++ x ∷ [])
all_push P [] x h p = (p, tt)
all_push P (y ∷ xs) x h p = (h.0, all_push P xs x h.1 p)

distinct_push : (ps : List (List ℕ)) (p : List ℕ) → IsDistinct bytes_eq ps → has_path ps p ≡ false → IsDistinct bytes_eq (ps ++ p ∷ [])
unfolding IsDistinct
distinct_push [] p d n = (tt, tt)
distinct_push (q ∷ ps) p d n =
    let l = or_parts (bytes_eq q p) (has_path ps p) n in
    (all_push (λ (x : List ℕ). bytes_eq q x ≡ false) ps p d.0 l.0, distinct_push ps p d.1 l.1)

by_first : (b c : Bool) → (b || c) ≡ true → (b ≡ true → ⊥) → c ≡ true
by_first true c e h = absurd (h refl)
by_first false c e h = e

apart_at : (q : List ℕ) (ps : List (List ℕ)) (i : ℕ) (p : List ℕ) → AllByRecursion (λ y. bytes_eq q y ≡ false) ps → slice_get ps i ≡ Some p → bytes_eq q p ≡ false
apart_at q [] i p h e = cc
apart_at q (x ∷ ps) zero p h e = let same : x ≡ p = cc in subst (λ (y : List ℕ). bytes_eq q y ≡ false) same h.0
apart_at q (x ∷ ps) (suc i) p h e = apart_at q ps i p h.1 e

unlike : (b : Bool) → b ≡ false → b ≡ true → ⊥
unlike true e h = cc
unlike false e h = cc

-- a path that stands before the i-th, and is the i-th
pub twice : (ps : List (List ℕ)) (i : ℕ) (p : List ℕ) → slice_get ps i ≡ Some p → has_path (take i ps) p ≡ true → IsDistinct bytes_eq ps → ⊥
unfolding IsDistinct
twice [] zero p e h d = cc
twice [] (suc i) p e h d = cc
twice (q ∷ ps) zero p e h d = cc
twice (q ∷ ps) (suc i) p e h d = twice ps i p e (by_first (bytes_eq q p) (has_path (take i ps) p) h (unlike (bytes_eq q p) (apart_at q ps i p d.0 e))) d.1

pub paths_more : (actors : List ActorSpec) (i : ℕ) (a : ActorSpec) → i < length actors → a ≡ get_or actors i a → path_list (take (i + 1) actors) ≡ path_list (take i actors) ++ a.path ∷ []
paths_more actors i a h e =
    ap path_list (take_more actors i a h ∙ ap (λ (x : ActorSpec). take i actors ++ x ∷ []) (sym e)) ∙ map-append (λ (x : ActorSpec). x.path) (take i actors) (a ∷ [])

pub distinct_nil : IsDistinct bytes_eq []
unfolding IsDistinct
distinct_nil = tt

-- one more path, which is none of those before
pub more_distinct : (actors : List ActorSpec) (i : ℕ) (a : ActorSpec) → i < length actors → a ≡ get_or actors i a → has_path (path_list (take i actors)) a.path ≡ false → IsDistinct bytes_eq (path_list (take i actors)) → IsDistinct bytes_eq (path_list (take (i + 1) actors))
more_distinct actors i a h e new d = subst (IsDistinct bytes_eq) (sym (paths_more actors i a h e)) (distinct_push (path_list (take i actors)) a.path d new)

pub repeated : (actors : List ActorSpec) (i : ℕ) (a : ActorSpec) → i < length actors → a ≡ get_or actors i a → has_path (path_list (take i actors)) a.path ≡ true → IsDistinct bytes_eq (path_list actors) → ⊥
repeated actors i a h e seen d =
    let at : slice_get (path_list actors) i ≡ Some a.path = slice_get-map (λ (x : ActorSpec). x.path) actors i ∙ ap (option_map (λ (x : ActorSpec). x.path)) (slice_get-get_or actors i a h ∙ ap Some (sym e)) in
    twice (path_list actors) i a.path at (subst (λ (ps : List (List ℕ)). has_path ps a.path ≡ true) (sym (take-map (λ (x : ActorSpec). x.path) i actors)) seen) d

by_last : (o b c : Bool) → o ≡ c → (if b then true else o) ≡ (c || (b || false))
by_last o true true e = refl
by_last o true false e = refl
by_last o false true e = e
by_last o false false e = e

-- what is seen with one more path
pub seen_more : (actors : List ActorSpec) (i : ℕ) (a : ActorSpec) (path : List ℕ) (o n : Bool) → i < length actors → a ≡ get_or actors i a → o ≡ has_path (path_list (take i actors)) path → n ≡ (if bytes_eq a.path path then true else o) → n ≡ has_path (path_list (take (i + 1) actors)) path
seen_more actors i a path o n h e old new =
    new ∙ by_last o (bytes_eq a.path path) (has_path (path_list (take i actors)) path) old
    ∙ sym (list_any-append (λ p. bytes_eq p path) (path_list (take i actors)) (a.path ∷ []))
    ∙ ap (λ ps. has_path ps path) (sym (paths_more actors i a h e))
