-- A node that takes steps: its journal grows by their entries, and what they send stands sent in it.
use Rattle.std.proofs.Common.{◌≡◌, ℕ, ◌==◌, Bool, true, false, List, [], ◌∷◌, ◌++◌, map, length, ◌+◌, Option, Some, None, IfSome, inl, inr, Contains, refl, sym, ◌∙◌, ap, subst, arith, append_assoc, append-nil}
use Rattle.std.specs.Prelude.{option_and_then}
use Rattle.std.proofs.lemmas.Bool.{eq-eqb}
use Rattle.std.proofs.lemmas.List.{length-append}
use Rattle.std.proofs.lemmas.List.Elements.{Contains-append_cases}
use Rattle.cv_rules.specs.declared.attrs.NodeSpec.{NodeSpec}
use Rattle.cv_protocol.specs.declared.event.Entry.{Entry}
use Rattle.cv_protocol.specs.declared.event.Event.{Event}
use Rattle.cv_protocol.specs.declared.event.Sent.{Sent}
use Rattle.cv_protocol.specs.declared.frame.Frame.{Frame}
use Rattle.cv_protocol.specs.NodeState.{NodeState}
use Rattle.cv_protocol.specs.NodeRow.{row, stamp_of}
use Rattle.cv_protocol.specs.Rows.{Did}
use Rattle.cv_protocol.specs.Journals.{did_if, did_at, next_of, replay, Sends}
use Rattle.cv_state.specs.Steps.{LeadsTo, frames_of}
use Rattle.cv_node.specs.Journalled.{Journalled, IsReplay, MakesStep, entry_of_row}
use Rattle.cv_node.proofs.Replays.{replays_step, stamped}
use Rattle.cv_station.specs.Acts.{FirstDoes, NodeDoes}
use Rattle.cv_mesh.specs.Keeping.{StandsSent}
use Rattle.cv_mesh.specs.Sending.{IsOwn, SendsOwn}
use Rattle.cv_mesh.proofs.Sending.{row_sends}

-- 1. The specification of a node stays

spec_at : (s : NodeState) (event : Event) (r : Option Did) (b : Bool) (next : NodeState) → IfSome r (SendsOwn s (stamp_of s event)) → next_of (did_if b r) ≡ Some next → next.spec ≡ s.spec
spec_at s event None true next own is = absurd (cc)
spec_at s event (Some d) true next own is =
    let same : d.next ≡ next = cc in ap (λ (x : NodeState). x.spec) (sym same) ∙ own.spec
spec_at s event r false next own is = absurd (cc)

spec_after : (s : NodeState) (e : Entry) (next : NodeState) → next_of (did_at s e) ≡ Some next → next.spec ≡ s.spec
spec_after s e next is = spec_at s e.event (row s e.event) (e.stamp == stamp_of s e.event) next (row_sends s e.event) is

spec_through : (o : Option NodeState) (es : List Entry) (t : NodeState) (spec : NodeSpec) → ((n : NodeState) → replay n es ≡ Some t → t.spec ≡ n.spec) → ((n : NodeState) → o ≡ Some n → n.spec ≡ spec) → option_and_then (λ n. replay n es) o ≡ Some t → t.spec ≡ spec
spec_through None es t spec below first is = absurd (cc)
spec_through (Some n) es t spec below first is = below n is ∙ first n refl

pub replay_spec : (es : List Entry) (s t : NodeState) → replay s es ≡ Some t → t.spec ≡ s.spec
replay_spec [] s t is = let same : s ≡ t = cc in ap (λ (x : NodeState). x.spec) (sym same)
replay_spec (e ∷ es) s t is =
    spec_through (next_of (did_at s e)) es t s.spec (λ n h. replay_spec es n t h) (λ n h. spec_after s e n h) is

-- 2. What was sent stays sent

pub sent_stays : (n m : Journalled) (more : List Entry) (f : Frame) → m.base ≡ n.base → m.entries ≡ n.entries ++ more → StandsSent n f → StandsSent m f
sent_stays n m more f based appends k = record {
  before = k.before;
  entry = k.entry;
  after = k.after ++ more;
  stands = appends ∙ ap (λ es. es ++ more) k.stands ∙ append_assoc k.before (k.entry ∷ k.after) more;
  stamped = k.stamped;
  sends = subst (λ (s : NodeState). Sends s k.before k.entry f) (sym based) k.sends;
  from = k.from ∙ ap (λ (s : NodeState). s.spec.no) (sym based);
}

-- 3. One step

-- what a row did that leads to these frames
record Leading (r : Option Did) (sent : Sent) : Type 0 where
  did : Did
  is : r ≡ Some did
  frames : frames_of sent ≡ did.sends

leading : (r : Option Did) (next : NodeState) (sent : Sent) → LeadsTo r next sent → Leading r sent
leading None next sent h = absurd h
leading (Some d) next sent h = record { did = d; is = refl; frames = h.1 }

own_at : (s : NodeState) (event : Event) (d : Did) (f : Frame) → row s event ≡ Some d → Contains d.sends f → IsOwn s.spec.no (stamp_of s event) f
own_at s event d f is c =
    let all : SendsOwn s (stamp_of s event) d = subst (λ (r : Option Did). IfSome r (SendsOwn s (stamp_of s event))) is (row_sends s event) in
    all.own f c

did_here : (s : NodeState) (event : Event) (d : Did) → row s event ≡ Some d → did_at s (entry_of_row s event) ≡ Some d
did_here s event d is = ap (λ b. did_if b (row s event)) (eq-eqb (stamp_of s event) (stamp_of s event) refl) ∙ is

step_sends : (old new : Journalled) (event : Event) (sent : Sent) (f : Frame) → IsReplay old.base old.state old.entries → MakesStep old event sent new → Contains (frames_of sent) f → StandsSent new f
step_sends old new event sent f kept steps c =
    let l = leading (row old.state event) new.state sent steps.does in
    let there : Contains l.did.sends f = subst (λ (fs : List Frame). Contains fs f) l.frames c in
    let own = own_at old.state event l.did f l.is there in
    record {
      before = old.entries;
      entry = entry_of_row old.state event;
      after = [];
      stands = steps.appends;
      stamped = sym own.stamped;
      sends = record {
        did = l.did;
        does = ap (λ (o : Option NodeState). option_and_then (λ here. did_at here (entry_of_row old.state event)) o) (ap (λ (b : NodeState). replay b old.entries) steps.based ∙ kept.replays) ∙ did_here old.state event l.did l.is;
        sent = there;
      };
      from = own.from ∙ ap (λ (x : NodeSpec). x.no) (replay_spec old.entries old.base old.state kept.replays) ∙ ap (λ (s : NodeState). s.spec.no) (sym steps.based);
    }

step_replays : (old new : Journalled) (event : Event) (sent : Sent) → IsReplay old.base old.state old.entries → MakesStep old event sent new → IsReplay new.base new.state new.entries
step_replays old new event sent kept steps =
    let stamp = stamped old.state event new.state sent steps.does in
    let entry : record { stamp = new.state.stamp; event = event } ≡ entry_of_row old.state event = ap (λ (t : ℕ). record { stamp = t; event = event }) stamp in
    let done = replays_step old.base old.state new.state old.entries event sent kept steps.does in
    subst (λ (b : NodeState). IsReplay b new.state new.entries) (sym steps.based)
    (subst (λ (es : List Entry). IsReplay old.base new.state es) (ap (λ (e : Entry). old.entries ++ e ∷ []) entry ∙ sym steps.appends) done)

-- 4. Several steps

pub record Grown (old : Journalled) (es : List Event) (frames : List Frame) (new : Journalled) : Type 0 where
  pub based : new.base ≡ old.base
  pub more : List Entry
  pub appends : new.entries ≡ old.entries ++ more
  pub events : map (λ (e : Entry). e.event) more ≡ es
  pub replays : IsReplay new.base new.state new.entries
  pub sent : (f : Frame) → Contains frames f → StandsSent new f

grown_none : (old new : Journalled) (frames : List Frame) → IsReplay old.base old.state old.entries → new ≡ old → frames ≡ [] → Grown old [] frames new
grown_none old new frames kept same none = record {
  based = ap (λ (j : Journalled). j.base) same;
  more = [];
  appends = ap (λ (j : Journalled). j.entries) same ∙ sym (append-nil old.entries);
  events = refl;
  replays = subst (λ (j : Journalled). IsReplay j.base j.state j.entries) (sym same) kept;
  sent = λ f c. absurd (let c' : Contains [] f = subst (λ (fs : List Frame). Contains fs f) none c in omega (arith, c'.1));
}

grown_first : (old new : Journalled) (e : Event) (es : List Event) (frames : List Frame) (k : FirstDoes (λ middle rest. NodeDoes middle es rest new) old e frames) → IsReplay old.base old.state old.entries → Grown k.middle es k.rest new → Grown old (e ∷ es) frames new
grown_first old new e es frames k kept later = record {
  based = later.based ∙ k.steps.based;
  more = entry_of_row old.state e ∷ later.more;
  appends = later.appends ∙ ap (λ xs. xs ++ later.more) k.steps.appends ∙ append_assoc old.entries (entry_of_row old.state e ∷ []) later.more;
  events = ap (λ xs. e ∷ xs) later.events;
  replays = later.replays;
  sent = λ f c.
      elim (Contains-append_cases (frames_of k.sent) k.rest f (subst (λ (fs : List Frame). Contains fs f) k.all c)) [
        | inl here ↦ sent_stays k.middle new later.more f later.based later.appends (step_sends old k.middle e k.sent f kept k.steps here)
        | inr there ↦ later.sent f there
      ];
}

pub does_grown : (es : List Event) (old : Journalled) (frames : List Frame) (new : Journalled) → IsReplay old.base old.state old.entries → NodeDoes old es frames new → Grown old es frames new
does_grown [] old frames new kept k = grown_none old new frames kept k.0 k.1
does_grown (e ∷ es) old frames new kept k =
    grown_first old new e es frames k kept (does_grown es k.middle k.rest new (step_replays old k.middle e k.sent kept k.steps) k.later)

first_long : (old new : Journalled) (e : Event) (es : List Event) (frames : List Frame) (k : FirstDoes (λ middle rest. NodeDoes middle es rest new) old e frames) → length new.entries ≡ length k.middle.entries + length es → length new.entries ≡ length old.entries + length (e ∷ es)
first_long old new e es frames k later =
    let one : length k.middle.entries ≡ length old.entries + 1 = ap length k.steps.appends ∙ length-append old.entries (entry_of_row old.state e ∷ []) in
    omega (arith, later, one)

-- the journal grows by as many entries
pub does_long : (es : List Event) (old : Journalled) (frames : List Frame) (new : Journalled) → NodeDoes old es frames new → length new.entries ≡ length old.entries + length es
does_long [] old frames new k =
    let same : length new.entries ≡ length old.entries = ap (λ (j : Journalled). length j.entries) k.0 in omega (arith, same)
does_long (e ∷ es) old frames new k = first_long old new e es frames k (does_long es k.middle k.rest new k.later)

-- 5. With no word of a replay

-- the entries of these events are appended
pub record Longer (old : Journalled) (es : List Event) (new : Journalled) : Type 0 where
  pub based : new.base ≡ old.base
  pub more : List Entry
  pub appends : new.entries ≡ old.entries ++ more
  pub events : map (λ (e : Entry). e.event) more ≡ es

longer_none : (old new : Journalled) → new ≡ old → Longer old [] new
longer_none old new same = record {
  based = ap (λ (j : Journalled). j.base) same;
  more = [];
  appends = ap (λ (j : Journalled). j.entries) same ∙ sym (append-nil old.entries);
  events = refl;
}

longer_first : (old new : Journalled) (e : Event) (es : List Event) (frames : List Frame) (k : FirstDoes (λ middle rest. NodeDoes middle es rest new) old e frames) → Longer k.middle es new → Longer old (e ∷ es) new
longer_first old new e es frames k later = record {
  based = later.based ∙ k.steps.based;
  more = entry_of_row old.state e ∷ later.more;
  appends = later.appends ∙ ap (λ xs. xs ++ later.more) k.steps.appends ∙ append_assoc old.entries (entry_of_row old.state e ∷ []) later.more;
  events = ap (λ xs. e ∷ xs) later.events;
}

pub does_longer : (es : List Event) (old : Journalled) (frames : List Frame) (new : Journalled) → NodeDoes old es frames new → Longer old es new
does_longer [] old frames new k = longer_none old new k.0
does_longer (e ∷ es) old frames new k =
    longer_first old new e es frames k (does_longer es k.middle k.rest new k.later)
