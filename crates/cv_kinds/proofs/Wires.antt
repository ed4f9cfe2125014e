-- Connections in their order.
use Rattle.std.proofs.Common.{◌≡◌, ℕ, zero, suc, ◌-◌, ◌<◌, ◌≤◌, List, [], ◌∷◌, length, get_or, slice_get, Some, refl, sym, ◌∙◌, ap, subst, arith}
use Rattle.std.proofs.lemmas.Option.{get_or_from_slice_get, slice_get-get_or, slice_get_within}
use Rattle.std.specs.List.{All}
use Rattle.cv_kinds.specs.declared.network.ActorSpec.{ActorSpec}
use Rattle.cv_kinds.specs.declared.network.Connection.{Connection}
use Rattle.cv_kinds.specs.Wired.{AllAbove, IsBelow, IsWired, HasPorts, Rising}

some_same : {X : Type 0} (x y : X) → Some x ≡ Some y → x ≡ y
some_same x y e = cc

-- ---- each below the next

abbrev pub RisesByStep : List Connection → Type 0
RisesByStep js = (i : ℕ) (j k : Connection) → slice_get js i ≡ Some j → slice_get js (suc i) ≡ Some k → IsBelow j k

below_both : (j k m : Connection) → IsBelow j k → IsBelow k m → IsBelow j m
below_both j k m h g =
    let left = h.0 in
    let right = g.0 in (
      omega (arith, left, right),
      λ e.
          let first = h.1 (omega (arith, left, right, e)) in
          let next = g.1 (omega (arith, left, right, e)) in
          omega (arith, first, next),
    )

above_next : (j k : Connection) (js : List Connection) → IsBelow j k → AllAbove k js → AllAbove j js
above_next j k [] h g = tt
above_next j k (m ∷ js) h g = (below_both j k m h g.0, above_next j k js h g.1)

pub rising_of : (js : List Connection) → RisesByStep js → Rising js
rising_of [] h = tt
rising_of (j ∷ []) h = (tt, tt)
rising_of (j ∷ k ∷ js) h =
    let rest = rising_of (k ∷ js) (λ i a b e g. h (suc i) a b e g) in
    let first = h 0 j k refl refl in
    ((first, above_next j k js first rest.0), rest)

at_above : (j : Connection) (js : List Connection) (i : ℕ) (k : Connection) → AllAbove j js → slice_get js i ≡ Some k → IsBelow j k
at_above j [] i k h e = cc
at_above j (m ∷ js) zero k h e = subst (IsBelow j) (some_same m k e) h.0
at_above j (m ∷ js) (suc i) k h e = at_above j js i k h.1 e

pub steps_of : (js : List Connection) → Rising js → RisesByStep js
steps_of [] h i j k e g = cc
steps_of (x ∷ js) h zero j k e g = subst (λ (y : Connection). IsBelow y k) (some_same x j e) (at_above x js 0 k h.0 g)
steps_of (x ∷ js) h (suc i) j k e g = steps_of js h.1 i j k e g

pub below_at : (js : List Connection) (i : ℕ) (d e : Connection) → 1 ≤ i → i < length js → Rising js → IsBelow (get_or js (i - 1) d) (get_or js i e)
below_at js i d e low high rising =
    let next : i ≡ suc (i - 1) = omega arith in
    steps_of js rising (i - 1) _ _ (slice_get-get_or js (i - 1) d (omega arith)) (subst (λ (n : ℕ). slice_get js n ≡ Some (get_or js i e)) next (slice_get-get_or js i e high))

-- ---- an inport has one connection

stands_once : (x : Connection) (js : List Connection) (k : Connection) (d : ℕ) → AllAbove x js → slice_get js d ≡ Some k → x.to ≡ k.to → x.inp ≡ k.inp → ⊥
stands_once x js k d above e to inp = let below = (at_above x js d k above e).1 to in omega (arith, below, inp)

one_place : (js : List Connection) (c d : ℕ) (j k : Connection) → Rising js → slice_get js c ≡ Some j → slice_get js d ≡ Some k → j.to ≡ k.to → j.inp ≡ k.inp → c ≡ d
one_place [] c d j k h e f to inp = cc
one_place (x ∷ js) zero zero j k h e f to inp = refl
one_place (x ∷ js) zero (suc d) j k h e f to inp = let same = some_same x j e in absurd (stands_once x js k d h.0 f (ap (λ (z : Connection). z.to) same ∙ to) (ap (λ (z : Connection). z.inp) same ∙ inp))
one_place (x ∷ js) (suc c) zero j k h e f to inp = let same = some_same x k f in absurd (stands_once x js j c h.0 e (ap (λ (z : Connection). z.to) same ∙ sym to) (ap (λ (z : Connection). z.inp) same ∙ sym inp))
one_place (x ∷ js) (suc c) (suc d) j k h e f to inp = ap suc (one_place js c d j k h.1 e f to inp)

-- ---- connections of ports that are there

pub all_at : {X : Type 0} (P : X → Type 0) (xs : List X) (i : ℕ) (x : X) → All P xs → slice_get xs i ≡ Some x → P x
all_at P xs i x h e = subst P (get_or_from_slice_get xs i x x e) (h i x (slice_get_within xs i x e))

pub wired_of : (actors : List ActorSpec) (js : List Connection) → All (HasPorts actors) js → Rising js → IsWired (record { actors = actors; connections = js })
wired_of actors js all rising = record {
  producers = λ c j e. (all_at (HasPorts actors) js c j all e).producer;
  consumers = λ c j e. (all_at (HasPorts actors) js c j all e).consumer;
  one_writer = λ c d j k e f to inp. one_place js c d j k rising e f to inp;
}

pub all_have_ports : (actors : List ActorSpec) (js : List Connection) → IsWired (record { actors = actors; connections = js }) → All (HasPorts actors) js
all_have_ports actors js wired = λ c j h.
    let e = slice_get-get_or js c j h in
    record { producer = wired.producers c _ e; consumer = wired.consumers c _ e }
