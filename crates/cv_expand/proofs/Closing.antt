-- Each component that the walk goes into leaves one closed component less.
use Rattle.std.proofs.Common.{◌≡◌, ℕ, ◌<◌, ◌≤◌, Bool, true, false, if◌then◌else◌, List, [], ◌∷◌, ◌++◌, Some, refl, ◌∙◌, ap, arith}
use Rattle.std.specs.Str.{bytes_eq}
use Rattle.std.proofs.lemmas.Slice.Eq.{bytes_eq-Decides}
use Rattle.cv_syntax.specs.declared.tree.Component.{Component}
use Rattle.cv_expand.specs.Lookup.{has}
use Rattle.cv_expand.specs.Components.{component_of}
use Rattle.cv_expand.specs.Walk.{closed}

same_bytes : (n : List ℕ) → bytes_eq n n ≡ true
same_bytes n = (bytes_eq-Decides n n).1 refl

here_or : (b r : Bool) → r ≡ true → (if b then true else r) ≡ true
here_or true r e = refl
here_or false r e = e

-- a name that is put behind others is among them
pub has-last : (names : List (List ℕ)) (n : List ℕ) → has (names ++ n ∷ []) n ≡ true
has-last [] n = rw (same_bytes n) refl
has-last (m ∷ names) n = here_or (bytes_eq m n) (has (names ++ n ∷ []) n) (has-last names n)

still : (b r q : Bool) → (r ≡ true → q ≡ true) → (if b then true else r) ≡ true → (if b then true else q) ≡ true
still true r q more h = refl
still false r q more h = more h

-- and so is what was there before
pub has-more : (names : List (List ℕ)) (n m : List ℕ) → has names m ≡ true → has (names ++ n ∷ []) m ≡ true
has-more [] n m h = cc
has-more (k ∷ names) n m h = still (bytes_eq k m) (has names m) (has (names ++ n ∷ []) m) (has-more names n m) h

less_weight : (b q : Bool) → (b ≡ true → q ≡ true) → (if q then 0 else 1) ≤ (if b then 0 else 1)
less_weight true q more = rw (more refl) (omega arith)
less_weight false true more = omega arith
less_weight false false more = omega arith

pub closed-more : (cs : List Component) (opened : List (List ℕ)) (n : List ℕ) → closed cs (opened ++ n ∷ []) ≤ closed cs opened
closed-more [] opened n = omega arith
closed-more (c ∷ cs) opened n =
    let head = less_weight (has opened c.name.text) (has (opened ++ n ∷ []) c.name.text) (has-more opened n c.name.text) in
    let rest = closed-more cs opened n in omega arith

falls_by : (d c : Component) (cs : List Component) (opened : List (List ℕ)) (n : List ℕ) (b : Bool)
    → (component_of cs n ≡ Some c → closed cs (opened ++ n ∷ []) < closed cs opened) → has opened n ≡ false
    → bytes_eq d.name.text n ≡ b → (if b then Some d else component_of cs n) ≡ Some c → closed (d ∷ cs) (opened ++ n ∷ []) < closed (d ∷ cs) opened
falls_by d c cs opened n true further shut is e =
    let same : d.name.text ≡ n = (bytes_eq-Decides d.name.text n).0 is in
    let before : has opened d.name.text ≡ false = ap (has opened) same ∙ shut in
    let after : has (opened ++ n ∷ []) d.name.text ≡ true = ap (has (opened ++ n ∷ [])) same ∙ has-last opened n in
    let rest = closed-more cs opened n in rw (before, after) (omega arith)
falls_by d c cs opened n false further shut is e =
    let head = less_weight (has opened d.name.text) (has (opened ++ n ∷ []) d.name.text) (has-more opened n d.name.text) in
    let rest = further e in omega arith

-- a component that is found and not open
pub closed_falls : (cs : List Component) (opened : List (List ℕ)) (n : List ℕ) (c : Component) → component_of cs n ≡ Some c → has opened n ≡ false → closed cs (opened ++ n ∷ []) < closed cs opened
closed_falls [] opened n c e shut = cc
closed_falls (d ∷ cs) opened n c e shut = falls_by d c cs opened n (bytes_eq d.name.text n) (λ found. closed_falls cs opened n c found shut) shut refl e
