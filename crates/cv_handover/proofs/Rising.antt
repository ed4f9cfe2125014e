-- Records rise, an attempt that was judged is not above them again, and each verdict is a judgement.
use Rattle.std.proofs.Common.{◌≡◌, ◌⊎◌, inl, inr, ℕ, ◌<◌, ◌≤◌, Bool, true, false, true≢false, ◌==◌, ◌&&◌, cond, List, [], ◌∷◌, Option, Some, None, refl, sym, ap, subst, ◌∙◌, arith, IfSome}
use Rattle.std.specs.Prelude.{nat_lt, nat_le, option_and_then}
use Rattle.std.proofs.lemmas.Bool.Decides.{nat_tests}
use Rattle.std.proofs.lemmas.Option.{same_Some, none-some as none_some, some_pair_parts, IfSome_then}
use Rattle.std.specs.FinMap as map
use Rattle.cv_token.specs.declared.identifiers.ActorId.{ActorId}
use Rattle.cv_table.specs.Order.{actor_cmp}
use Rattle.cv_table.proofs.Views.{get_inserted, same_actor-cases}
use Rattle.cv_protocol.specs.declared.event.Event.{Event}
use Rattle.cv_protocol.specs.declared.event.Entry.{Entry}
use Rattle.cv_protocol.specs.declared.event.Event.TheVariants as event
use Rattle.cv_protocol.specs.declared.frame.Body.{Body}
use Rattle.cv_protocol.specs.declared.frame.Body.TheVariants as body
use Rattle.cv_protocol.specs.declared.frame.Frame.{Frame}
use Rattle.cv_protocol.specs.declared.frame.Verdict.{Verdict}
use Rattle.cv_protocol.specs.declared.frame.Verdict.TheVariants as verdict
use Rattle.cv_protocol.specs.declared.moving.Judged.{Judged}
use Rattle.cv_protocol.specs.Journals.{did_at, next_of, replay}
use Rattle.cv_protocol.specs.Actors.{StateView}
use Rattle.cv_protocol.specs.Deliveries.{with_verdict, judgement, judged_as, transfer_judged, transfer_comes, cancel_comes}
use Rattle.cv_protocol.specs.NodeRow.{row, stamp_of, comes, deliver, is_bounded, stamped, stamped_if}
use Rattle.cv_protocol.specs.NodeState.{NodeState, judged_attempt, last}
use Rattle.cv_protocol.specs.Poll.{limit}
use Rattle.cv_protocol.specs.Rows.{Did}
use Rattle.cv_handover.specs.Rising.{record_of, asks, judged_if, judgement_by, judgement_at, RowsRaise, JournalsRaise, JudgedOnce, VerdictsAreJudged, WasCancelled, CancelledByCancel}
use Rattle.cv_handover.proofs.Running.{row_of_did}
use Rattle.cv_handover.proofs.Counting.{Stood, row_follows, replay_counts, hints_leave}

pub rows_raise : RowsRaise
rows_raise s e a = IfSome_then (row s e) (row_follows s e) (λ d q. q.counts.rises a)

pub journals_raise : JournalsRaise
journals_raise s u entries a is = (replay_counts s entries u is).rises a

-- a record that was just made
made_here : (records : map.FinMap actor_cmp Judged) (a : ActorId) (j : Judged) → judged_attempt (map.get (map.insert records a j) a) ≡ j.attempt
made_here records a j =
    elim (same_actor-cases a a) [
      | inl s ↦ ap judged_attempt (get_inserted records a j a ∙ ap (λ (t : Bool). cond t (Some j) (map.get records a)) s.0)
      | inr s ↦ absurd (s.1 refl)
    ]

module _ (s : NodeState) (stamp sender : ℕ) (a : ActorId) (e : ℕ) (high : last s a < e) where
  new : nat_le e (last s a) ≡ false
  new = grind (arith, nat_tests, high)

  refused_record : (v : Verdict) → e ≤ record_of (with_verdict s a e v) a
  refused_record v = let k = made_here s.moves.judged a (record { attempt = e; verdict = Some v }) in omega (arith, k)

  judged_record : (state : StateView) (v : Verdict) → e ≤ record_of (transfer_judged s stamp sender a e state v).next a
  judged_record state verdict.Accepted = omega (arith, refused_record verdict.Accepted, (hints_leave s stamp sender a e new state).counts.rises a)
  judged_record state verdict.Unfit = refused_record verdict.Unfit
  judged_record state verdict.Full = refused_record verdict.Full
  judged_record state verdict.Gone = refused_record verdict.Gone
  judged_record state verdict.Cancelled = refused_record verdict.Cancelled

  transfer_record : (state : StateView) (old : Bool) → nat_le e (last s a) ≡ old → e ≤ record_of (transfer_comes s stamp sender a e state old).next a
  transfer_record state true is = absurd (true≢false (sym is ∙ new))
  transfer_record state false is = judged_record state (judged_as s a state)

  cancel_record : (old : Bool) → nat_le e (last s a) ≡ old → e ≤ record_of (cancel_comes s stamp sender a e old).next a
  cancel_record true is = absurd (true≢false (sym is ∙ new))
  cancel_record false is = refused_record verdict.Cancelled

module _ (s : NodeState) (stamp : ℕ) (a : ActorId) (e : ℕ) (high : last s a < e) where
  -- of the actor and the attempt that the frame names
  named : (b : ActorId) (k : ℕ) (t : NodeState) → (b ≡ a) × (k ≡ e) → (last s b < k → k ≤ record_of t b) → e ≤ record_of t a
  named b k t same made =
      let low : last s b ≡ last s a = ap (last s) same.0 in
      let there : record_of t b ≡ record_of t a = ap (record_of t) same.0 in
      let number : k ≡ e = same.1 in
      let h : k ≤ record_of t b = made (omega (arith, low, number, high)) in
      omega (arith, h, there, number)

  comes_record : (sender : ℕ) (b : Body) → asks b ≡ Some (a, e) → e ≤ record_of (comes s stamp sender b).next a
  comes_record sender (body.Transfer b k state) is =
      named b k (comes s stamp sender (body.Transfer b k state)).next (some_pair_parts b a k e is) (λ above. transfer_record s stamp sender b k above state (nat_le k (last s b)) refl)
  comes_record sender (body.Cancel b k) is =
      named b k (comes s stamp sender (body.Cancel b k)).next (some_pair_parts b a k e is) (λ above. cancel_record s stamp sender b k above (nat_le k (last s b)) refl)
  comes_record sender (body.Token conn b n t) is = absurd (none_some (a, e) is)
  comes_record sender (body.Ack conn b upto) is = absurd (none_some (a, e) is)
  comes_record sender (body.Nack conn b upto) is = absurd (none_some (a, e) is)
  comes_record sender (body.Verdict b k v) is = absurd (none_some (a, e) is)
  comes_record sender (body.Located b k node) is = absurd (none_some (a, e) is)
  comes_record sender (body.Destroy app) is = absurd (none_some (a, e) is)

  deliver_record : (f : Frame) → asks f.body ≡ Some (a, e) → (b : Bool) → IfSome (deliver s stamp f b) (λ d. e ≤ record_of d.next a)
  deliver_record f is false = tt
  deliver_record f is true = comes_record f.from f.body is

  bounded_record : (d : Did) → e ≤ record_of d.next a → (b : Bool) → IfSome (stamped_if stamp d b) (λ d. e ≤ record_of d.next a)
  bounded_record d h false = tt
  bounded_record d h true = h

  stamped_record : (r : Option Did) → IfSome r (λ d. e ≤ record_of d.next a) → IfSome (stamped stamp r) (λ d. e ≤ record_of d.next a)
  stamped_record None h = tt
  stamped_record (Some d) h = bounded_record d h (is_bounded stamp d)

pub judged_once : JudgedOnce
judged_once s u f a e entries is high =
    let stamp : ℕ = stamp_of s (event.Deliver f) in
    let made = stamped_record s stamp a e high (deliver s stamp f ((f.to == s.spec.no) && nat_lt f.stamp limit)) (deliver_record s stamp a e high f is ((f.to == s.spec.no) && nat_lt f.stamp limit)) in
    IfSome_then (row s (event.Deliver f)) made (λ d h after. let r = journals_raise d.next u entries a after in omega (arith, h, r))

-- Verdicts

stood_judged : (records : map.FinMap actor_cmp Judged) (made : Option (ActorId × Judged)) (a : ActorId) (j : Judged) (v : Verdict) → j.verdict ≡ Some v → Stood records made a j → (map.get records a ≡ Some j) ⊎ (made ≡ Some (a, j))
stood_judged records made a j v has (inl old) = inl old
stood_judged records made a j v has (inr (inl none)) = absurd (none_some v (sym none ∙ has))
stood_judged records made a j v has (inr (inr new)) = inr new

pub verdicts_judged : VerdictsAreJudged
verdicts_judged s e a j v has =
    IfSome_then (row s e) (row_follows s e) (λ d q is. stood_judged s.moves.judged (judgement_at s e) a j v has (q.stays a j is))

-- a Transfer is not judged Cancelled
not_cancelled : (gone fit room : Bool) → judgement gone fit room ≡ verdict.Cancelled → ⊥
not_cancelled true fit room e = cc
not_cancelled false false room e = cc
not_cancelled false true false e = cc
not_cancelled false true true e = cc

record IsMade (a b : ActorId) (e : ℕ) (v : Verdict) (j : Judged) : Type 0 where
  pub actor : a ≡ b
  pub attempt : e ≡ j.attempt
  pub verdict : Some v ≡ j.verdict

made_by : (old : Bool) (a b : ActorId) (e : ℕ) (v : Verdict) (j : Judged) → judged_if old a e v ≡ Some (b, j) → IsMade a b e v j
made_by true a b e v j is = absurd (none_some (b, j) is)
made_by false a b e v j is =
    let p = some_pair_parts a b (record { attempt = e; verdict = Some v }) j is in
    record { actor = p.0; attempt = ap (λ (x : Judged). x.attempt) p.1; verdict = ap (λ (x : Judged). x.verdict) p.1 }

cancel_of : (s : NodeState) (b : Body) (a : ActorId) (j : Judged) → judgement_by s b ≡ Some (a, j) → j.verdict ≡ Some verdict.Cancelled → b ≡ body.Cancel a j.attempt
cancel_of s (body.Transfer b k state) a j is says =
    let m = made_by (nat_le k (last s b)) b a k (judged_as s b state) j is in
    absurd (not_cancelled _ _ _ (same_Some (judged_as s b state) verdict.Cancelled (m.verdict ∙ says)))
cancel_of s (body.Cancel b k) a j is says =
    let m = made_by (nat_le k (last s b)) b a k verdict.Cancelled j is in
    λ z. body.Cancel (m.actor z) (m.attempt z)
cancel_of s (body.Token conn b n t) a j is says = absurd (none_some (a, j) is)
cancel_of s (body.Ack conn b upto) a j is says = absurd (none_some (a, j) is)
cancel_of s (body.Nack conn b upto) a j is says = absurd (none_some (a, j) is)
cancel_of s (body.Verdict b k v) a j is says = absurd (none_some (a, j) is)
cancel_of s (body.Located b k node) a j is says = absurd (none_some (a, j) is)
cancel_of s (body.Destroy app) a j is says = absurd (none_some (a, j) is)

-- the event delivers that Cancel
record Cancels (e : Event) (a : ActorId) (k : ℕ) : Type 0 where
  pub frame : Frame
  pub delivers : e ≡ event.Deliver frame
  pub cancels : frame.body ≡ body.Cancel a k

cancel_at : (s : NodeState) (e : Event) (a : ActorId) (j : Judged) → judgement_at s e ≡ Some (a, j) → j.verdict ≡ Some verdict.Cancelled → Cancels e a j.attempt
cancel_at s (event.Deliver f) a j is says = record { frame = f; delivers = refl; cancels = cancel_of s f.body a j is says }
cancel_at s (event.Lose f) a j is says = absurd (none_some (a, j) is)
cancel_at s (event.Meet node attrs) a j is says = absurd (none_some (a, j) is)
cancel_at s (event.Deploy name net) a j is says = absurd (none_some (a, j) is)
cancel_at s (event.Tick now) a j is says = absurd (none_some (a, j) is)
cancel_at s (event.Peek b port) a j is says = absurd (none_some (a, j) is)
cancel_at s (event.Fire b action) a j is says = absurd (none_some (a, j) is)
cancel_at s (event.Pass conn) a j is says = absurd (none_some (a, j) is)
cancel_at s (event.Send conn) a j is says = absurd (none_some (a, j) is)
cancel_at s (event.Rewind conn) a j is says = absurd (none_some (a, j) is)
cancel_at s (event.Freeze b to) a j is says = absurd (none_some (a, j) is)
cancel_at s (event.Resend b) a j is says = absurd (none_some (a, j) is)
cancel_at s (event.Withdraw b) a j is says = absurd (none_some (a, j) is)
cancel_at s (event.Hint b k node) a j is says = absurd (none_some (a, j) is)
cancel_at s (event.Destroy app) a j is says = absurd (none_some (a, j) is)

-- the first entry, and those behind it
first_cancels : (s : NodeState) (e : Entry) (es : List Entry) (a : ActorId) (j : Judged) → j.verdict ≡ Some verdict.Cancelled → (d : Did) → row s e.event ≡ Some d → (map.get d.next.moves.judged a ≡ Some j) ⊎ WasCancelled es a j.attempt → (map.get s.moves.judged a ≡ Some j) ⊎ WasCancelled (e ∷ es) a j.attempt
first_cancels s e es a j says d does (inr w) =
    inr (record { before = e ∷ w.before; entry = w.entry; after = w.after; frame = w.frame; stands = ap (λ (l : List Entry). e ∷ l) w.stands; delivers = w.delivers; cancels = w.cancels })
first_cancels s e es a j says d does (inl there) =
    let q = IfSome_then (row s e.event) (row_follows s e.event) (λ x f. f.stays a j) in
    let stood : map.get d.next.moves.judged a ≡ Some j → Stood s.moves.judged (judgement_at s e.event) a j = subst (λ (o : Option Did). IfSome o (λ x. map.get x.next.moves.judged a ≡ Some j → Stood s.moves.judged (judgement_at s e.event) a j)) does q in
    elim (stood_judged s.moves.judged (judgement_at s e.event) a j verdict.Cancelled says (stood there)) [
      | inl old ↦ inl old
      | inr new ↦
          let c = cancel_at s e.event a j new says in
          inr (record { before = []; entry = e; after = es; frame = c.frame; stands = refl; delivers = c.delivers; cancels = c.cancels })
    ]

later_cancels : (s u : NodeState) (e : Entry) (es : List Entry) (a : ActorId) (j : Judged) → j.verdict ≡ Some verdict.Cancelled → (x : Option Did) → did_at s e ≡ x → ((t : NodeState) → replay t es ≡ Some u → (map.get t.moves.judged a ≡ Some j) ⊎ WasCancelled es a j.attempt) → option_and_then (λ (t : NodeState). replay t es) (next_of x) ≡ Some u → (map.get s.moves.judged a ≡ Some j) ⊎ WasCancelled (e ∷ es) a j.attempt
later_cancels s u e es a j says None does rest is = absurd (none_some u is)
later_cancels s u e es a j says (Some d) does rest is =
    first_cancels s e es a j says d (row_of_did (e.stamp == stamp_of s e.event) (row s e.event) d does) (rest d.next is)

pub cancelled_by_cancel : CancelledByCancel
cancelled_by_cancel s u [] a j is there says = inl (ap (λ (t : NodeState). map.get t.moves.judged a) (same_Some s u is) ∙ there)
cancelled_by_cancel s u (e ∷ es) a j is there says =
    later_cancels s u e es a j says (did_at s e) refl (λ t later. cancelled_by_cancel t u es a j later there says) is
