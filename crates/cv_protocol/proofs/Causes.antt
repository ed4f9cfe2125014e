-- An event has a cause exactly where it is no row.
use Rattle.std.proofs.Common.{◌≡◌, ℕ, Bool, true, false, not, ◌||◌, Option, None, Some, is_some, refl, ap, arith}
use Rattle.std.specs.FinMap as map
use Rattle.std.proofs.Common.{◌+◌, ◌<◌, IfSome}
use Rattle.cv_protocol.specs.Laws.{Rises}
use Rattle.cv_token.specs.declared.identifiers.ActorId.{ActorId}
use Rattle.cv_protocol.specs.declared.event.Event.{Event}
use Rattle.cv_protocol.specs.declared.event.Event.TheVariants as event
use Rattle.cv_protocol.specs.declared.moving.Frozen.{Frozen}
use Rattle.cv_protocol.specs.Actors.{LiveState}
use Rattle.cv_protocol.specs.NodeState.{NodeState, is_other_known}
use Rattle.cv_protocol.specs.Rows.{Did, Outlet, Spot, outlet, peek, fire, pass, pass_to, send, rewind, freeze, freeze_to, resend, withdraw}
use Rattle.cv_protocol.specs.NodeRow.{row, attempted, stamp_of, stamped, stamped_if, is_bounded, cause_of, lacks_actor, finds_moving, lacks_target, first_cause, last_cause, spent_unless, whereabouts, is_absent, is_moving, spot_left, consumer_by}

-- whether there is a row, and whether there is a cause, by the event's row before its numbers are looked at
by_bound : (stamp : ℕ) (d : Did) (b : Bool) → is_some (stamped_if stamp d b) ≡ not (is_some (spent_unless b))
by_bound stamp d true = refl
by_bound stamp d false = refl

by_row : (stamp : ℕ) (e : Event) (d : Option Did) → is_some (stamped stamp d) ≡ not (is_some (last_cause stamp e d))
by_row stamp e None = refl
by_row stamp e (Some d) = by_bound stamp d (is_bounded stamp d)

-- the first causes are told only where there is no row
early : (stamp : ℕ) (e : Event) (actor moving target : Bool) (d : Option Did) → (actor || (moving || target) ≡ true → d ≡ None) → is_some (stamped stamp d) ≡ not (is_some (first_cause actor moving target (last_cause stamp e d)))
early stamp e true moving target d none = ap (λ r. is_some (stamped stamp r)) (none refl)
early stamp e false true target d none = ap (λ r. is_some (stamped stamp r)) (none refl)
early stamp e false false true d none = ap (λ r. is_some (stamped stamp r)) (none refl)
early stamp e false false false d none = by_row stamp e d

-- where an actor that lives here is wanted, and none does
not_alone : {X F : Type 0} (Q : Option X → Option Did) → Q None ≡ None → (x : Option X) (f : Option F) → is_absent (whereabouts x f) || (is_moving (whereabouts x f) || false) ≡ true → Q x ≡ None
not_alone Q none None f is = none
not_alone Q none (Some x) f is = absurd (cc)

not_frozen : (Q : Option Frozen → Option Did) → Q None ≡ None → (l : Option LiveState) (f : Option Frozen) → is_absent (whereabouts l f) || (false || false) ≡ true → Q f ≡ None
not_frozen Q none l None is = none
not_frozen Q none None (Some f) is = absurd (cc)
not_frozen Q none (Some l) (Some f) is = absurd (cc)

no_target : (s : NodeState) (stamp : ℕ) (a : ActorId) (l : LiveState) (to : ℕ) (b : Bool) → not b ≡ true → freeze_to s stamp a l to b ≡ None
no_target s stamp a l to false is = refl
no_target s stamp a l to true is = absurd (cc)

not_freezing : (s : NodeState) (stamp : ℕ) (a : ActorId) (to : ℕ) (l : Option LiveState) (f : Option Frozen) → is_absent (whereabouts l f) || (is_moving (whereabouts l f) || not (is_other_known s to)) ≡ true → freeze s stamp a to l ≡ None
not_freezing s stamp a to None f is = refl
not_freezing s stamp a to (Some l) f is = no_target s stamp a l to (is_other_known s to) is

no_consumer : (s : NodeState) (x : Outlet) (c : ActorId) (l : Option LiveState) (f : Option Frozen) → is_absent (whereabouts l f) || (is_moving (whereabouts l f) || false) ≡ true → pass_to s x c l ≡ None
no_consumer s x c None f is = refl
no_consumer s x c (Some l) f is = absurd (cc)

not_passing : (s : NodeState) (x : Option Outlet) (p : Option Spot) → (is_absent (whereabouts x p) || is_absent (consumer_by s x p)) || ((is_moving (whereabouts x p) || is_moving (consumer_by s x p)) || false) ≡ true → pass s x ≡ None
not_passing s None p is = refl
not_passing s (Some x) p is = no_consumer s x x.spot.reader.consumer _ _ is

-- the first three causes come only where there is no row
no_row_early : (s : NodeState) (e : Event) → lacks_actor s e || (finds_moving s e || lacks_target s e) ≡ true → attempted s (stamp_of s e) e ≡ None
no_row_early s (event.Meet node attrs) is = absurd (cc)
no_row_early s (event.Deploy name net) is = absurd (cc)
no_row_early s (event.Tick now) is = absurd (cc)
no_row_early s (event.Peek a port) is = not_alone (peek s a port) refl (map.get s.live a) (map.get s.moves.frozen a) is
no_row_early s (event.Fire a action) is = not_alone (fire s a action) refl (map.get s.live a) (map.get s.moves.frozen a) is
no_row_early s (event.Pass conn) is = not_passing s (outlet s conn) (spot_left s conn (map.get s.known.producers conn)) is
no_row_early s (event.Send conn) is = not_alone (send s (s.stamp + 1)) refl (outlet s conn) (spot_left s conn (map.get s.known.producers conn)) is
no_row_early s (event.Rewind conn) is = not_alone (rewind s) refl (outlet s conn) (spot_left s conn (map.get s.known.producers conn)) is
no_row_early s (event.Freeze a to) is = not_freezing s (s.stamp + 1) a to (map.get s.live a) (map.get s.moves.frozen a) is
no_row_early s (event.Resend a) is = not_frozen (resend s (s.stamp + 1) a) refl (map.get s.live a) (map.get s.moves.frozen a) is
no_row_early s (event.Withdraw a) is = not_frozen (withdraw s (s.stamp + 1) a) refl (map.get s.live a) (map.get s.moves.frozen a) is
no_row_early s (event.Hint a attempt node) is = absurd (cc)
no_row_early s (event.Destroy app) is = absurd (cc)
no_row_early s (event.Lose f) is = absurd (cc)
no_row_early s (event.Deliver f) is = absurd (cc)

pub rows_and_causes : (s : NodeState) (e : Event) → is_some (row s e) ≡ not (is_some (cause_of s e))
rows_and_causes s e =
    early (stamp_of s e) e (lacks_actor s e) (finds_moving s e) (lacks_target s e) (attempted s (stamp_of s e) e) (no_row_early s e)

above : (s : NodeState) (e : Event) → s.stamp < stamp_of s e
above s (event.Lose f) = omega arith
above s (event.Deliver f) = omega arith
above s (event.Meet node attrs) = omega arith
above s (event.Deploy name net) = omega arith
above s (event.Tick now) = omega arith
above s (event.Peek a port) = omega arith
above s (event.Fire a action) = omega arith
above s (event.Pass conn) = omega arith
above s (event.Send conn) = omega arith
above s (event.Rewind conn) = omega arith
above s (event.Freeze a to) = omega arith
above s (event.Resend a) = omega arith
above s (event.Withdraw a) = omega arith
above s (event.Hint a attempt node) = omega arith
above s (event.Destroy app) = omega arith

rises_if : (s : NodeState) (e : Event) (d : Did) (b : Bool) → IfSome (stamped_if (stamp_of s e) d b) (Rises s e)
rises_if s e d false = tt
rises_if s e d true = (refl, above s e)

rises_by : (s : NodeState) (e : Event) (d : Option Did) → IfSome (stamped (stamp_of s e) d) (Rises s e)
rises_by s e None = tt
rises_by s e (Some d) = rises_if s e d (is_bounded (stamp_of s e) d)

pub stamps_rise : (s : NodeState) (e : Event) → IfSome (row s e) (Rises s e)
stamps_rise s e = rises_by s e (attempted s (stamp_of s e) e)
