-- Every record keeps the two promises, from states that agree or from nodes before their first entry.
use Rattle.std.proofs.Common.{◌≡◌, ℕ, ◌+◌, ◌-◌, List, [], ◌∷◌, ◌++◌, length, Option, Some, None, refl, sym, ap, subst, ◌∙◌, arith}
use Rattle.std.specs.Prelude.{option_map, unwrap_or, slice_get, Contains}
use Rattle.std.proofs.lemmas.List.Concat.{flat_map-append}
use Rattle.std.proofs.lemmas.Option.{none-some as none_some}
use Rattle.std.specs.FinMap as map
use Rattle.std.specs.FinMap.{get-empty}
use Rattle.cv_token.specs.declared.identifiers.ActorId.{ActorId}
use Rattle.cv_table.specs.Order.{actor_cmp}
use Rattle.cv_kinds.specs.declared.network.ActorSpec.{ActorSpec}
use Rattle.cv_kinds.specs.Net.{Net}
use Rattle.cv_rules.specs.declared.attrs.NodeSpec.{NodeSpec}
use Rattle.cv_protocol.specs.declared.event.Entry.{Entry}
use Rattle.cv_protocol.specs.declared.event.Event.{Event}
use Rattle.cv_protocol.specs.declared.event.Event.TheVariants as event
use Rattle.cv_protocol.specs.declared.event.Step.{Step}
use Rattle.cv_protocol.specs.declared.frame.Frame.{Frame}
use Rattle.cv_protocol.specs.declared.moving.Judged.{Judged}
use Rattle.cv_protocol.specs.NodeState.{NodeState, opening}
use Rattle.cv_protocol.specs.Owners.{Nowhere}
use Rattle.cv_protocol.specs.Journals.{replay, IsLocalRun, entry_of, own_entry, entries_of}
use Rattle.cv_protocol.specs.Rows.{next_app}
use Rattle.cv_handover.specs.Meaning.{Nets, Meaning, fresh}
use Rattle.cv_handover.specs.Agree.{Living, Copy, living, copy_of, lives, copies, records, History, WasTried, Owned, Kept, Agree}
use Rattle.cv_handover.specs.Runs.{Reaches, AllHolds, CarriesNet, CarryNets, deployed_net, deployed_nets, net_in, nets_of, opened, IsRun, StreamsInOrder, FromAgreed, FromNothing, OwnersHold, nothing_yet}
use Rattle.cv_handover.proofs.Counting.{replay_counts}
use Rattle.cv_handover.proofs.Openings.{streams_fresh}
use Rattle.cv_handover.proofs.Running.{own_first, reaches, live_at_owner, in_order}
use Rattle.cv_handover.proofs.Standing.{nowhere_not_at, nowhere_not_between}
use Rattle.cv_handover.proofs.Steps.{every_step}

-- 1. From states that agree

pub reached : (n : Nets) (openings : ℕ → NodeState) (start : Meaning) (h : History) (journals : ℕ → List Entry) (m : List Step) → Agree n openings [] start h → IsRun openings journals m → CarryNets n openings m → (begins rest : List Step) → m ≡ begins ++ rest → Reaches n openings start begins
reached n openings start h journals m g run nets begins rest stands =
    let local : (i : ℕ) → IsLocalRun (openings i) (entries_of i m) = λ i. subst (IsLocalRun (openings i)) (sym (run.record_of.parts i)) (run.local i) in
    reaches every_step n openings start m local run.sent nets [] begins rest stands (record { world = opened openings; meaning = start; history = h; reached = refl; states = λ i. refl; agrees = g })

pub owners_agreed : FromAgreed OwnersHold
owners_agreed n openings start h journals m g run nets begins rest stands = live_at_owner n openings start begins (reached n openings start h journals m g run nets begins rest stands)

pub streams_agreed : FromAgreed StreamsInOrder
streams_agreed n openings start h journals m g run nets begins rest stands = in_order n openings start begins (reached n openings start h journals m g run nets begins rest stands)

pub holds_agreed : FromAgreed AllHolds
holds_agreed n openings start h journals m g run nets begins rest stands = reached n openings start h journals m g run nets begins rest stands

-- 2. Before anything was deployed

-- nobody has moved yet
abbrev pub no_moves : Nets → History
no_moves n = record {
  copy = fresh n;
  attempt = λ a. 0;
  moves = λ a e. record { source = 0; target = 0; state = fresh n a; verdict = None };
}

pub never_tried : (n : Nets) (a : ActorId) (e : ℕ) → WasTried (no_moves n) a e → ⊥
never_tried n a e tried = omega (arith, tried.0, tried.1)

pub none_there : (f : Frame) → Contains [] f → ⊥
none_there f (k, low, is) = omega arith

pub nobody : {X Y : Type 0} (f : X → Y) (x : Option X) (y : Y) → x ≡ None → option_map f x ≡ Some y → ⊥
nobody f x y e is = none_some y (sym (ap (option_map f) e) ∙ is)

module _ (n : Nets) (specs : ℕ → NodeSpec) where
  openings : ℕ → NodeState
  openings = λ i. opening (specs i)

  no_lives : (a : ActorId) (i : ℕ) (l : Living) → lives (λ k. opening (specs k)) i a ≡ Some l → ⊥
  no_lives a i l is = nobody living (map.get (opening (specs i)).live a) l (get-empty actor_cmp a) is

  no_copies : (i : ℕ) (a : ActorId) (f : Copy) → copies (λ k. opening (specs k)) i a ≡ Some f → ⊥
  no_copies i a f is = nobody copy_of (map.get (opening (specs i)).moves.frozen a) f (get-empty actor_cmp a) is

  no_records : (i : ℕ) (a : ActorId) (j : Judged) → records (λ k. opening (specs k)) i a ≡ Some j → ⊥
  no_records i a j is = none_some j (sym (get-empty actor_cmp a) ∙ is)

  owned_nowhere : Owned (lives (λ k. opening (specs k))) (λ a. Nowhere) (no_moves n)
  owned_nowhere = record {
    live_at = λ a i is. absurd (nowhere_not_at i is);
    live_only = λ a i l is. absurd (no_lives a i l is);
    between = λ a i j e is. absurd (nowhere_not_between i j e is);
    settled = λ a i e is. absurd (nowhere_not_at i is);
    absent = λ a e is tried. absurd (never_tried n a e tried);
    past_judged = λ a e low high. absurd (omega arith);
  }

  kept_nowhere : Kept (copies (λ k. opening (specs k))) (records (λ k. opening (specs k))) (λ a. Nowhere) (no_moves n)
  kept_nowhere = record {
    frozen_ok = λ i a f is. absurd (no_copies i a f is);
    judged_ok = λ i a j v is. absurd (no_records i a j is);
    judged_high = λ a e tried. absurd (never_tried n a e tried);
  }

  pub agrees_nowhere : ((i : ℕ) → (specs i).no ≡ i) → Agree n (λ i. opening (specs i)) [] (nothing_yet n) (no_moves n)
  agrees_nowhere numbers = record {
    numbered = record { number = numbers; unheard = λ a below. record { owner = refl; attempt = refl; copy = refl } };
    owned = owned_nowhere;
    kept = kept_nowhere;
    streams = streams_fresh n (nothing_yet n) (λ a. refl) (λ c. refl) (λ c. refl) (λ c. refl);
    sent = λ f there. absurd (none_there f there);
  }

-- 3. The networks of a record

next_at : (before : List Net) (net : Net) (after : List Net) → slice_get (before ++ net ∷ after) (length before) ≡ Some net
next_at [] net after = refl
next_at (x ∷ before) net after = next_at before net after

-- the deployment that comes next in a journal
next_net : (before : List Net) (net : Net) (after : List Net) (k : ℕ) → k ≡ length before → slice_get (before ++ net ∷ after) k ≡ Some net
next_net before net after k is = ap (slice_get (before ++ net ∷ after)) is ∙ next_at before net after

module _ (specs : ℕ → NodeSpec) (nobody : ActorSpec) (journals : ℕ → List Entry) (m : List Step) (numbers : (i : ℕ) → (specs i).no ≡ i) (run : IsRun (λ i. opening (specs i)) journals m) where
  -- the journal of a node, around one of its steps
  around : (before after : List Step) (step : Step) → m ≡ before ++ step ∷ after → journals step.node ≡ entries_of step.node before ++ (entry_of step ∷ entries_of step.node after)
  around before after step stands =
      sym (run.record_of.parts step.node) ∙ ap (entries_of step.node) stands ∙ flat_map-append (own_entry step.node) before (step ∷ after) ∙ ap (λ (l : List Entry). entries_of step.node before ++ l) (own_first step (entries_of step.node after))

  carried : (before after : List Step) (step : Step) (s : NodeState) (name : List ℕ) (net : Net) → m ≡ before ++ step ∷ after → replay (opening (specs step.node)) (entries_of step.node before) ≡ Some s → step.event ≡ event.Deploy name net → net ≡ net_in journals (next_app s)
  carried before after step s name net stands state is =
      let i : ℕ = step.node in
      let old : List Net = deployed_nets (entries_of i before) in
      let later : List Net = deployed_nets (entries_of i after) in
      let q = replay_counts (opening (specs i)) (entries_of i before) s state in
      let node : s.spec.no ≡ i = ap (λ (x : NodeSpec). x.no) q.spec ∙ numbers i in
      let place : (s.known.deployed + 1) - 1 ≡ length old = omega (arith, q.deployed) in
      let nets : deployed_nets (journals i) ≡ old ++ net ∷ later = ap deployed_nets (around before after step stands) ∙ flat_map-append (λ (e : Entry). deployed_net e.event) (entries_of i before) (entry_of step ∷ entries_of i after) ∙ ap (λ (e : Event). old ++ (deployed_net e ++ later)) is in
      let found : slice_get (deployed_nets (journals s.spec.no)) ((s.known.deployed + 1) - 1) ≡ Some net = ap (λ (k : ℕ). slice_get (deployed_nets (journals k)) ((s.known.deployed + 1) - 1)) node ∙ ap (λ (l : List Net). slice_get l ((s.known.deployed + 1) - 1)) nets ∙ next_net old net later ((s.known.deployed + 1) - 1) place in
      sym (ap (λ (x : Option Net). unwrap_or x (record { actors = []; connections = [] })) found)

  carries_by : (s : NodeState) (e : Event) → ((name : List ℕ) (net : Net) → e ≡ event.Deploy name net → net ≡ net_in journals (next_app s)) → CarriesNet (nets_of nobody journals) s e
  carries_by s (event.Deploy name net) is = is name net refl
  carries_by s (event.Meet node attrs) is = tt
  carries_by s (event.Tick now) is = tt
  carries_by s (event.Peek a port) is = tt
  carries_by s (event.Fire a action) is = tt
  carries_by s (event.Pass conn) is = tt
  carries_by s (event.Send conn) is = tt
  carries_by s (event.Rewind conn) is = tt
  carries_by s (event.Freeze a to) is = tt
  carries_by s (event.Resend a) is = tt
  carries_by s (event.Withdraw a) is = tt
  carries_by s (event.Hint a attempt node) is = tt
  carries_by s (event.Destroy app) is = tt
  carries_by s (event.Lose f) is = tt
  carries_by s (event.Deliver f) is = tt

  pub carry_nets : CarryNets (nets_of nobody journals) (λ i. opening (specs i)) m
  carry_nets before after step s stands state = carries_by s step.event (λ name net is. carried before after step s name net stands state is)

pub owners_opened : FromNothing OwnersHold
owners_opened specs nobody journals m numbers run =
    let n : Nets = nets_of nobody journals in
    owners_agreed n (λ i. opening (specs i)) (nothing_yet n) (no_moves n) journals m (agrees_nowhere n specs numbers) run (carry_nets specs nobody journals m numbers run)

pub streams_opened : FromNothing StreamsInOrder
streams_opened specs nobody journals m numbers run =
    let n : Nets = nets_of nobody journals in
    streams_agreed n (λ i. opening (specs i)) (nothing_yet n) (no_moves n) journals m (agrees_nowhere n specs numbers) run (carry_nets specs nobody journals m numbers run)

pub holds_opened : FromNothing AllHolds
holds_opened specs nobody journals m numbers run =
    let n : Nets = nets_of nobody journals in
    holds_agreed n (λ i. opening (specs i)) (nothing_yet n) (no_moves n) journals m (agrees_nowhere n specs numbers) run (carry_nets specs nobody journals m numbers run)
