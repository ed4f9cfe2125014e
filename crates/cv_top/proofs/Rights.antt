-- A record of one node of a wired network keeps owners and streams, and the text is that of its firings.
use Rattle.std.proofs.Common.{◌≡◌, inl, inr, ℕ, ◌==◌, ◌&&◌, Bool, true, false, is_some, if◌then◌else◌, List, [], ◌∷◌, ◌++◌, Some, None, Result, Ok, Err, IfOk, refl, ap, sym, ◌∙◌, subst, append-nil}
use Rattle.std.proofs.lemmas.Bool.{eqb-true}
use Rattle.std.specs.declared.alloc.AllocError.{AllocError}
use Rattle.cv_kinds.specs.declared.network.ActorSpec.{ActorSpec}
use Rattle.cv_kinds.specs.declared.kind.Kind.TheVariants as kind
use Rattle.cv_flow.specs.declared.kind.FlowKind.TheVariants as flow
use Rattle.cv_kinds.specs.Net.{Net}
use Rattle.cv_kinds.specs.Wired.{IsWired}
use Rattle.cv_protocol.specs.declared.event.Entry.{Entry}
use Rattle.cv_protocol.specs.declared.event.Event.{Event}
use Rattle.cv_protocol.specs.declared.event.Event.TheVariants as event
use Rattle.cv_protocol.specs.declared.event.Record.{Record}
use Rattle.cv_protocol.specs.declared.event.Step.{Step}
use Rattle.cv_protocol.specs.NodeState.{NodeState, opening}
use Rattle.cv_protocol.specs.Journals.{got_frame, replay, IsLocalRun}
use Rattle.cv_alone.specs.declared.alone.RunEnd.{RunEnd}
use Rattle.cv_alone.specs.Going.{are_own, is_own}
use Rattle.cv_alone.specs.Recorded.{IsOneNodeRun, first_entry, first_spec, only_first}
use Rattle.cv_alone.specs.Resting.{run_app}
use Rattle.cv_merge.specs.Laws.{AreLocalRuns, GotOnlySent}
use Rattle.cv_merge.proofs.Bridge.{sent_before}
use Rattle.cv_handover.specs.Runs.{IsRun}
use Rattle.cv_handover.proofs.Alone.{each_opened}
use Rattle.cv_handover.proofs.Records.{owners_opened}
use Rattle.cv_solo.specs.OneRuntime.{Runtime, solo}
use Rattle.cv_words.specs.Runs.{Run}
use Rattle.cv_top.specs.Printed.{firings_of, IsTextWhereDefined}
use Rattle.cv_top.specs.Ran.{IsRightAlone, IsRightRecord, IsRightRun, StreamsInOrder, openings}

-- 1. The journals of a run are local runs

first_run : (b : Bool) (s : NodeState) (entries : List Entry) → (b ≡ true → IsLocalRun s entries) → IsLocalRun s (if b then entries else [])
first_run true s entries run = run refl
first_run false s entries run = refl

-- 2. Nothing came

own_gets_none : (e : Event) → is_own e ≡ true → got_frame e ≡ None
own_gets_none (event.Tick now) own = refl
own_gets_none (event.Peek a port) own = refl
own_gets_none (event.Fire a action) own = refl
own_gets_none (event.Pass conn) own = refl
own_gets_none (event.Meet node attrs) own = refl
own_gets_none (event.Deploy name net) own = refl
own_gets_none (event.Send conn) own = refl
own_gets_none (event.Rewind conn) own = refl
own_gets_none (event.Freeze a to) own = refl
own_gets_none (event.Resend a) own = refl
own_gets_none (event.Withdraw a) own = refl
own_gets_none (event.Hint a attempt node) own = refl
own_gets_none (event.Destroy app) own = refl
own_gets_none (event.Lose f) own = absurd (cc)
own_gets_none (event.Deliver f) own = absurd (cc)

both_true : (a b : Bool) → a && b ≡ true → (a ≡ true) × (b ≡ true)
both_true true b h = (refl, h)
both_true false b h = absurd (cc)

-- a journal none of whose entries got a frame
gets_none : (before after : List Entry) (e : Entry) (es : List Entry) → are_own es ≡ true → es ≡ before ++ e ∷ after → got_frame e.event ≡ None
gets_none [] after e [] own is = absurd (cc)
gets_none (b ∷ before) after e [] own is = absurd (cc)
gets_none [] after e (x ∷ es) own is =
    let same : x ≡ e = cc in
    subst (λ (y : Entry). got_frame y.event ≡ None) same (own_gets_none x.event (both_true (is_own x.event) (are_own es) own).0)
gets_none (b ∷ before) after e (x ∷ es) own is =
    let tail : es ≡ before ++ e ∷ after = cc in
    gets_none before after e es (both_true (is_own x.event) (are_own es) own).1 tail

first_gets_none : (net : Net) (more before after : List Entry) (e : Entry) → are_own more ≡ true → first_entry net ∷ more ≡ before ++ e ∷ after → got_frame e.event ≡ None
first_gets_none net more [] after e own is =
    let same : first_entry net ≡ e = cc in subst (λ (y : Entry). got_frame y.event ≡ None) same refl
first_gets_none net more (b ∷ before) after e own is =
    let tail : more ≡ before ++ e ∷ after = cc in gets_none before after e more own tail

journal_gets_none : (b : Bool) (net : Net) (more before after : List Entry) (e : Entry) → are_own more ≡ true → (if b then first_entry net ∷ more else []) ≡ before ++ e ∷ after → got_frame e.event ≡ None
journal_gets_none true net more before after e own is = first_gets_none net more before after e own is
journal_gets_none false net more [] after e own is = absurd (cc)
journal_gets_none false net more (b ∷ before) after e own is = absurd (cc)

got_nothing : (net : Net) (more : List Entry) → are_own more ≡ true → GotOnlySent openings (only_first (first_entry net ∷ more))
got_nothing net more own i before after e f is got =
    let none = journal_gets_none (1 == i) net more before after e own is in absurd (cc)

-- 3. The laws hold of the record

opening_at : (i : ℕ) → (1 == i) ≡ true → openings i ≡ opening first_spec
opening_at i same = ap openings (sym (eqb-true 1 i same))

local_runs : (net : Net) (most : ℕ) (s : RunEnd) (m : Record) (run : IsOneNodeRun net most s m) → AreLocalRuns openings (only_first (first_entry net ∷ run.more))
local_runs net most s m run i =
    first_run (1 == i) (openings i) (first_entry net ∷ run.more) (λ same.
    let replays : replay (openings i) (first_entry net ∷ run.more) ≡ Some run.state = ap (λ (o : NodeState). replay o (first_entry net ∷ run.more)) (opening_at i same) ∙ run.local_run in
    ap is_some replays)

pub is_run : (net : Net) (most : ℕ) (s : RunEnd) (m : Record) (run : IsOneNodeRun net most s m) → IsRun openings (only_first (first_entry net ∷ run.more)) m.entries
is_run net most s m run =
    let local = local_runs net most s m run in
    record {
      record_of = run.recorded;
      local = local;
      sent = sent_before openings (only_first (first_entry net ∷ run.more)) m.entries local (got_nothing net run.more run.own) run.recorded;
    }

-- anybody will do where nobody is meant
nobody : ActorSpec
nobody = record { path = []; kind = kind.Flow flow.Identity; args = [] }

streams_hold : (net : Net) (most : ℕ) (s : RunEnd) (m : Record) (run : IsOneNodeRun net most s m) → IsWired net → (begins rest : List Step) → m.entries ≡ begins ++ rest → StreamsInOrder net run.more begins
streams_hold net most s m run wired begins rest split somebody =
    each_opened (λ i. record first_spec { no = i }) somebody (only_first (first_entry net ∷ run.more)) m.entries (λ i. refl) (is_run net most s m run) begins rest run_app split wired

pub right_alone : (net : Net) (most : ℕ) (s : RunEnd) (m : Record) → IsWired net → IsOneNodeRun net most s m → IsRightAlone net most s m
right_alone net most s m wired run = record {
  run = run;
  owners = owners_opened (λ i. record first_spec { no = i }) nobody (only_first (first_entry net ∷ run.more)) m.entries (λ i. refl) (is_run net most s m run);
  streams = streams_hold net most s m run wired;
}

-- a run of one node is one of the words that ask for one node
pub alone_right : (run : Run) (net : Net) (most : ℕ) (x : Result (RunEnd × Record) AllocError) → run.nodes ≡ 1 → most ≡ run.firings → IsWired net
    → IfOk x (λ r. IsOneNodeRun net most r.0 r.1) → IfOk x (λ r. IsRightRecord run net r.0 r.1)
alone_right run net most (Ok r) one same wired is =
    inl (one, right_alone net run.firings r.0 r.1 wired (subst (λ (k : ℕ). IsOneNodeRun net k r.0 r.1) same is))
alone_right run net most (Err x) one same wired is = tt

-- 4. The text is that of the recorded firings

-- the one runtime allows the recorded firings
solo_defined : (run : Run) (net : Net) (s : RunEnd) (m : Record) → IsRightRecord run net s m → (r : Runtime) × (solo net (firings_of m.entries) ≡ Some r)
solo_defined run net s m (inl (one, right)) = let whole = right.streams m.entries [] (sym (append-nil m.entries)) nobody in (whole.runtime, whole.defined)
solo_defined run net s m (inr (more, right)) = let whole = right.streams m.entries [] (sym (append-nil m.entries)) nobody in (whole.runtime, whole.defined)

pub right_run : (run : Run) (net : Net) (s : RunEnd) (m : Record) (text : List ℕ) → IsRightRecord run net s m → IsTextWhereDefined net (firings_of m.entries) s text → IsRightRun run net s m text
right_run run net s m text right printed =
    let whole = solo_defined run net s m right in
    record { right = right; runtime = whole.0; defined = whole.1; printed = printed whole.0 whole.1 }
