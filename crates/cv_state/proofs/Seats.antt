-- Where a fed inport stands.
use Rattle.std.proofs.Common.{◌≡◌, ℕ, suc, ◌-◌, ◌≤◌, Bool, true, false, if◌then◌else◌, List, [], ◌∷◌, slice_get, Option, Some, None, refl, ap, ◌∙◌, subst, arith}
use Rattle.std.specs.Option.{option_map, unwrap_or}
use Rattle.cv_token.specs.declared.identifiers.ConnId.{ConnId}
use Rattle.cv_table.specs.Order.{same_conn}
use Rattle.cv_protocol.specs.declared.state.Inlet.{Inlet}
use Rattle.cv_protocol.specs.Actors.{LiveState}
use Rattle.cv_protocol.specs.Rows.{Seat, inlet_at, seat_of}

-- what is known of a seat
seated : (conn : ConnId) (n : ℕ) (i : Inlet) (ins : List (Option Inlet)) (y : Seat) (b : Bool) → (if b then Some (record { inp = n; inlet = i }) else seat_of conn (suc n) ins) ≡ Some y → (P : Type 0) → (n ≡ y.inp → i ≡ y.inlet → P) → (seat_of conn (suc n) ins ≡ Some y → P) → P
seated conn n i ins y true e P here later =
    let made : Seat = record { inp = n; inlet = i } in
    let same : made ≡ y = cc in
    here (ap (λ (z : Seat). z.inp) same) (ap (λ (z : Seat). z.inlet) same)
seated conn n i ins y false e P here later = later e

sits_from : (conn : ConnId) (n : ℕ) (ins : List (Option Inlet)) (y : Seat) → seat_of conn n ins ≡ Some y → (n ≤ y.inp) × (slice_get ins (y.inp - n) ≡ Some (Some y.inlet))
sits_from conn n [] y e = absurd (cc)
sits_from conn n (None ∷ ins) y e =
    let At : ℕ → Type 0 = λ k. slice_get (None ∷ ins) k ≡ Some (Some y.inlet) in
    let h = sits_from conn (suc n) ins y e in
    let next : suc (y.inp - suc n) ≡ y.inp - n = omega (arith, h.0) in
    (omega (arith, h.0), subst At next h.1)
sits_from conn n (Some i ∷ ins) y e =
    let At : ℕ → Type 0 = λ k. slice_get (Some i ∷ ins) k ≡ Some (Some y.inlet) in
    seated conn n i ins y (same_conn i.conn conn) e ((n ≤ y.inp) × At (y.inp - n))
    (λ inp inlet. let first : 0 ≡ y.inp - n = omega arith in (omega arith, subst At first (ap (λ (j : Inlet). Some (Some j)) inlet)))
    (λ later.
    let h = sits_from conn (suc n) ins y later in
    let next : suc (y.inp - suc n) ≡ y.inp - n = omega (arith, h.0) in
    (omega (arith, h.0), subst At next h.1))

pub sits : (conn : ConnId) (ins : List (Option Inlet)) (y : Seat) → seat_of conn 0 ins ≡ Some y → slice_get ins y.inp ≡ Some (Some y.inlet)
sits conn ins y e =
    let zero_less : y.inp - 0 ≡ y.inp = omega arith in
    subst (λ (k : ℕ). slice_get ins k ≡ Some (Some y.inlet)) zero_less (sits_from conn 0 ins y e).1

-- a seat as the code was told of it
pub record Seated (conn : ConnId) (l : LiveState) (inp : ℕ) : Type 0 where
  pub seat : Seat
  pub there : seat_of conn 0 l.actor.ins ≡ Some seat
  pub is : inp ≡ seat.inp
  pub inlet : inlet_at l inp ≡ Some seat.inlet

seated_by : (conn : ConnId) (l : LiveState) (inp : ℕ) (o : Option Seat) → seat_of conn 0 l.actor.ins ≡ o → Some inp ≡ option_map (λ (y : Seat). y.inp) o → Seated conn l inp
seated_by conn l inp None there e = absurd (cc)
seated_by conn l inp (Some y) there e =
    let same : inp ≡ y.inp = cc in
    let stands = ap (λ (o : Option (Option Inlet)). unwrap_or o None) (ap (slice_get l.actor.ins) same ∙ sits conn l.actor.ins y there) in
    record { seat = y; there = there; is = same; inlet = stands }

pub seated_at : (conn : ConnId) (l : LiveState) (inp : ℕ) → Some inp ≡ option_map (λ (y : Seat). y.inp) (seat_of conn 0 l.actor.ins) → Seated conn l inp
seated_at conn l inp e = seated_by conn l inp (seat_of conn 0 l.actor.ins) refl e

-- the same of an actor that was found twice
pub seated_again : (conn : ConnId) (l m : LiveState) (inp : ℕ) → l ≡ m → Some inp ≡ option_map (λ (y : Seat). y.inp) (seat_of conn 0 l.actor.ins) → Seated conn m inp
seated_again conn l m inp same e =
    seated_at conn m inp (e ∙ ap (λ (x : LiveState). option_map (λ (y : Seat). y.inp) (seat_of conn 0 x.actor.ins)) same)

-- a seat has its inport
pub unfed : {X : Type 0} (conn : ConnId) (l : LiveState) (inp : ℕ) (f : Inlet → X) (h : Seated conn l inp) → None ≡ option_map f (inlet_at l inp) → ⊥
unfed {X} conn l inp f h none = let same : None ≡ Some (f h.seat.inlet) = none ∙ ap (option_map f) h.inlet in cc

-- what was told of the inport is of the seat's
pub fed_is : {X : Type 0} (conn : ConnId) (l : LiveState) (inp : ℕ) (f : Inlet → X) (h : Seated conn l inp) (x : X) → Some x ≡ option_map f (inlet_at l inp) → x ≡ f h.seat.inlet
fed_is {X} conn l inp f h x e = let same : Some x ≡ Some (f h.seat.inlet) = e ∙ ap (option_map f) h.inlet in cc
