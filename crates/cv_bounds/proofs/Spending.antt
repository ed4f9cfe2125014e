-- A row raises no number by more than one, and no event is refused for a number that is far from the limit.
use Rattle.std.proofs.Common.{◌≡◌, ℕ, suc, ◌<◌, Bool, true, false, ◌==◌, ◌&&◌, Option, Some, None, refl, arith, IfSome}
use Rattle.std.specs.Prelude.{nat_lt, nat_le}
use Rattle.std.specs.FinMap as map
use Rattle.std.proofs.lemmas.Bool.Decides.{nat_tests}
use Rattle.cv_rules.specs.declared.attrs.Attrs.{Attrs}
use Rattle.cv_protocol.specs.declared.event.Event.{Event}
use Rattle.cv_protocol.specs.declared.event.Event.TheVariants as event
use Rattle.cv_protocol.specs.declared.frame.Frame.{Frame}
use Rattle.cv_protocol.specs.declared.refusal.StepRefusal.{StepRefusal}
use Rattle.cv_protocol.specs.declared.refusal.StepRefusal.TheVariants as refusal
use Rattle.cv_protocol.specs.Journals.{got_frame}
use Rattle.cv_protocol.specs.NodeRow.{attempted, condition_cause, deliver, finds_moving, first_cause, is_bounded, lacks_actor, lacks_target, last_cause, lose, row, spent_unless, stamp_of, stamped, stamped_if}
use Rattle.cv_protocol.specs.NodeState.{NodeState}
use Rattle.cv_protocol.specs.Poll.{limit}
use Rattle.cv_protocol.specs.Rows.{Did, becomes, is_node, meet, tick}
use Rattle.cv_bounds.specs.Few.{BodyIsFew, DidFew, DueIsBounded, GotFew, IsFew, NoneIsSpent, RaisesByOne, is_still}
use Rattle.cv_bounds.proofs.Raising.{Few, becomes_few, comes_few, few_same, few_weaken, fire_few, no_frame, pass_of, peek_few, rewind_of, send_of}

module _ (n : ℕ) (s : NodeState) (h : IsFew n s) where
  -- the live actors and the hints stay
  same_few : (t : NodeState) → t.live ≡ s.live → t.hints ≡ s.hints → Few (suc n) (Unit {0}) (becomes t)
  same_few t live hints = record {
    did = record { next = few_same (suc n) s t live hints (few_weaken n (suc n) s (omega arith) h); sends = λ f c. no_frame (suc n) f c };
    fits = λ low due. refl;
  }

  meet_few : (node : ℕ) (attrs : Attrs) (b : Bool) → IfSome (meet s node attrs b) (Few (suc n) (Unit {0}))
  meet_few node attrs false = tt
  meet_few node attrs true = same_few (record s { known = record (s.known) { nodes = map.insert s.known.nodes node attrs } }) refl refl

  tick_few : (now : ℕ) (b : Bool) → IfSome (tick s now b) (Few (suc n) (Unit {0}))
  tick_few now false = tt
  tick_few now true = same_few (record s { now = now }) refl refl

  lose_few : (b : Bool) → IfSome (lose s b) (Few (suc n) (Unit {0}))
  lose_few false = tt
  lose_few true = becomes_few n s h

  deliver_few : (stamp : ℕ) (f : Frame) (b : Bool) → BodyIsFew n f.body → IfSome (deliver s stamp f b) (Few (suc n) (Unit {0}))
  deliver_few stamp f false few = tt
  deliver_few stamp f true few = comes_few n s h stamp f.from f.body few

  attempted_few : (stamp : ℕ) (e : Event) → is_still e ≡ true → GotFew n (got_frame e) → IfSome (attempted s stamp e) (Few (suc n) (DueIsBounded s e))
  attempted_few stamp (event.Meet node attrs) still got = meet_few node attrs (is_node node)
  attempted_few stamp (event.Tick now) still got = tick_few now (nat_le s.now now && nat_lt now limit)
  attempted_few stamp (event.Peek a port) still got = peek_few n s h a port (map.get s.live a) refl
  attempted_few stamp (event.Fire a action) still got = fire_few n s h a action (map.get s.live a) refl
  attempted_few stamp (event.Pass conn) still got = pass_of n s h conn
  attempted_few stamp (event.Send conn) still got = send_of n s h stamp conn
  attempted_few stamp (event.Rewind conn) still got = rewind_of n s h conn
  attempted_few stamp (event.Lose f) still got = lose_few (f.to == s.spec.no)
  attempted_few stamp (event.Deliver f) still got = deliver_few stamp f ((f.to == s.spec.no) && nat_lt f.stamp limit) got
  attempted_few stamp (event.Deploy name net) still got = absurd (cc)
  attempted_few stamp (event.Freeze a to) still got = absurd (cc)
  attempted_few stamp (event.Resend a) still got = absurd (cc)
  attempted_few stamp (event.Withdraw a) still got = absurd (cc)
  attempted_few stamp (event.Hint a attempt node) still got = absurd (cc)
  attempted_few stamp (event.Destroy app) still got = absurd (cc)

  -- 1. What a row leaves

  bounded_few : (stamp : ℕ) (due : Type 0) (d : Did) (b : Bool) → Few (suc n) due d → IfSome (stamped_if stamp d b) (DidFew (suc n))
  bounded_few stamp due d false few = tt
  bounded_few stamp due d true few = record { next = few_same (suc n) d.next (record (d.next) { stamp = stamp }) refl refl few.did.next; sends = few.did.sends }

  stamped_few : (stamp : ℕ) (due : Type 0) (r : Option Did) → IfSome r (Few (suc n) due) → IfSome (stamped stamp r) (DidFew (suc n))
  stamped_few stamp due None few = tt
  stamped_few stamp due (Some d) few = bounded_few stamp due d (is_bounded stamp d) few

  row_few : (e : Event) → is_still e ≡ true → GotFew n (got_frame e) → IfSome (row s e) (DidFew (suc n))
  row_few e still got =
      stamped_few (stamp_of s e) (DueIsBounded s e) (attempted s (stamp_of s e) e) (attempted_few (stamp_of s e) e still got)

  -- 2. No number is spent

  unspent_condition : (e : Event) → Some (condition_cause e) ≡ Some refusal.StampSpent → ⊥
  unspent_condition (event.Deploy name net) is = absurd (cc)
  unspent_condition (event.Meet node attrs) is = absurd (cc)
  unspent_condition (event.Tick now) is = absurd (cc)
  unspent_condition (event.Peek a port) is = absurd (cc)
  unspent_condition (event.Fire a action) is = absurd (cc)
  unspent_condition (event.Pass conn) is = absurd (cc)
  unspent_condition (event.Send conn) is = absurd (cc)
  unspent_condition (event.Rewind conn) is = absurd (cc)
  unspent_condition (event.Freeze a to) is = absurd (cc)
  unspent_condition (event.Resend a) is = absurd (cc)
  unspent_condition (event.Withdraw a) is = absurd (cc)
  unspent_condition (event.Hint a attempt node) is = absurd (cc)
  unspent_condition (event.Destroy app) is = absurd (cc)
  unspent_condition (event.Lose f) is = absurd (cc)
  unspent_condition (event.Deliver f) is = absurd (cc)

  unspent_if : (b : Bool) → b ≡ true → spent_unless b ≡ Some refusal.StampSpent → ⊥
  unspent_if true is spent = absurd (cc)
  unspent_if false is spent = absurd (cc)

  unspent_last : (stamp : ℕ) (e : Event) (r : Option Did) → suc n < limit → stamp < limit → DueIsBounded s e → IfSome r (Few (suc n) (DueIsBounded s e)) → last_cause stamp e r ≡ Some refusal.StampSpent → ⊥
  unspent_last stamp e None low stamped due few is = unspent_condition e is
  unspent_last stamp e (Some d) low stamped due few is =
      let fits = few.fits low due in
      unspent_if (is_bounded stamp d) (grind (arith, nat_tests, fits, stamped)) is

  unspent_first : (lacking moving target : Bool) (later : Option StepRefusal) → (later ≡ Some refusal.StampSpent → ⊥) → first_cause lacking moving target later ≡ Some refusal.StampSpent → ⊥
  unspent_first true moving target later none is = absurd (cc)
  unspent_first false true target later none is = absurd (cc)
  unspent_first false false true later none is = absurd (cc)
  unspent_first false false false later none is = none is

pub raises_by_one : RaisesByOne
raises_by_one n s e still got h = row_few n s h e still got

pub none_is_spent : NoneIsSpent
none_is_spent n s e low still got h stamp due =
    unspent_first n s h (lacks_actor s e) (finds_moving s e) (lacks_target s e) (last_cause (stamp_of s e) e (attempted s (stamp_of s e) e)) (unspent_last n s h (stamp_of s e) e (attempted s (stamp_of s e) e) low stamp due (attempted_few n s h (stamp_of s e) e still got))
