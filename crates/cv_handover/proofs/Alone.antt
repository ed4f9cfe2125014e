-- Along a record, each application's one runtime goes with the meaning.
use Rattle.std.proofs.Common.{◌≡◌, ℕ, zero, suc, ◌+◌, ◌<◌, List, [], ◌∷◌, ◌++◌, length, map, Option, Some, refl, sym, ap, subst, ◌∙◌, arith, append_assoc, IfSome}
use Rattle.std.specs.Prelude.{slice_get, unwrap_or, option_and_then, nat_eq, replicate}
use Rattle.std.proofs.lemmas.Option.{same_Some, slice_get_within}
use Rattle.std.specs.FinMap as fin
use Rattle.cv_token.specs.declared.token.Token.{Token}
use Rattle.cv_token.specs.declared.identifiers.AppId.{AppId}
use Rattle.cv_token.specs.declared.identifiers.ActorId.{ActorId}
use Rattle.cv_token.specs.declared.identifiers.ConnId.{ConnId}
use Rattle.cv_kinds.specs.declared.network.ActorSpec.{ActorSpec}
use Rattle.cv_kinds.specs.KindRow.{row_of}
use Rattle.cv_kinds.specs.Wired.{IsWired}
use Rattle.cv_solo.specs.declared.stream.Stream.{Stream}
use Rattle.cv_solo.specs.OneRuntime.{Runtime, opening, slots_of, solo_from}
use Rattle.cv_protocol.specs.declared.event.Step.{Step}
use Rattle.cv_protocol.specs.Actors.{Actor}
use Rattle.cv_protocol.specs.Journals.{replay, entries_of}
use Rattle.cv_protocol.specs.NodeRow.{row, stamp_of}
use Rattle.cv_protocol.specs.NodeState.{NodeState, opening as node_opening}
use Rattle.cv_protocol.specs.Rows.{Did}
use Rattle.cv_handover.specs.Alone.{IsBegun, Alone, AreListed, EachAlone, EachFromStart}
use Rattle.cv_handover.specs.Meaning.{Nets, Meaning}
use Rattle.cv_handover.specs.Runs.{opened, ran, CarryNets, FromAgreed, FromNothing, nets_of, nothing_yet, Reaches}
use Rattle.cv_handover.specs.Runtimes.{listed, slots_in, stream_in, runtime_of, firing_at, firings}
use Rattle.cv_handover.specs.World.{World, after}
use Rattle.cv_handover.proofs.Counting.{Follows, row_follows}
use Rattle.cv_handover.proofs.Folding.{deed_alone, solo_append}
use Rattle.cv_handover.proofs.Listing.{listed_at, listed_length}
use Rattle.cv_handover.proofs.Living.{is_here}
use Rattle.cv_handover.proofs.Records.{reached, no_moves, agrees_nowhere, carry_nets}
use Rattle.cv_handover.proofs.Standing.{nowhere_not_at}
use Rattle.cv_handover.proofs.Running.{first, first_is, ran_append, states_of, row_of_did, prefix_of}
use Rattle.cv_handover.proofs.Wiring.{conn_in}

-- 1. Along the steps

-- what the one runtime fired by then
record Fired (n : Nets) (app : AppId) (v : Meaning) (fs : List (ℕ × ℕ)) (x : Meaning) : Type 0 where
  pub solo : solo_from (n.net app) (runtime_of n v app) fs ≡ Some (runtime_of n x app)
  pub listed : AreListed n x.owner

module _ (n : Nets) (openings : ℕ → NodeState) (start : Meaning) (m : List Step) (nets : CarryNets n openings m) (app : AppId) (wired : IsWired (n.net app)) where
  fired_on : (p q rest : List Step) → m ≡ p ++ (q ++ rest) → (w : World) (v : Meaning) → ran n (opened openings) start p ≡ Some (w, v) → AreListed n v.owner → (x : World × Meaning) → ran n w v q ≡ Some x → Fired n app v (firings app q) x.1
  fired_on p [] rest stands w v is known x e = record {
    solo = ap (λ (y : World × Meaning). Some (runtime_of n y.1 app)) (same_Some (w, v) x e);
    listed = subst (λ (y : World × Meaning). AreListed n y.1.owner) (same_Some (w, v) x e) known;
  }
  fired_on p (s ∷ ss) rest stands w v is known x e =
      let i : ℕ = s.node in
      let f = first n w v s ss x e in
      let state : replay (openings i) (entries_of i p) ≡ Some (w.nodes i) = states_of n (opened openings) start p (w, v) is i in
      let is_row : row (w.nodes i) s.event ≡ Some f.did = row_of_did (nat_eq s.stamp (stamp_of (w.nodes i) s.event)) (row (w.nodes i) s.event) f.did f.does in
      let q : Follows (w.nodes i) s.event f.did = subst (λ (o : Option Did). IfSome o (Follows (w.nodes i) s.event)) is_row (row_follows (w.nodes i) s.event) in
      let d = deed_alone n v f.meaning i f.did.deed app wired (q.nets n (nets p (ss ++ rest) s (w.nodes i) stands state)) known f.means_it in
      let one : solo_from (n.net app) (runtime_of n v app) (firing_at app s.event) ≡ Some (runtime_of n f.meaning app) = ap (solo_from (n.net app) (runtime_of n v app)) (sym (q.fires app)) ∙ d.fired in
      let next : m ≡ (p ++ s ∷ []) ++ (ss ++ rest) = stands ∙ sym (append_assoc p (s ∷ []) (ss ++ rest)) in
      let later : ran n (opened openings) start (p ++ s ∷ []) ≡ Some (after w i f.did, f.meaning) = ran_append n (opened openings) start p (s ∷ []) ∙ ap (option_and_then (λ (y : World × Meaning). ran n y.0 y.1 (s ∷ []))) is ∙ first_is n w v s [] f.did f.meaning f.does f.means_it in
      let rest_fired = fired_on (p ++ s ∷ []) ss rest next (after w i f.did) f.meaning later d.listed x f.later in
      record {
        solo = solo_append (n.net app) (runtime_of n v app) (runtime_of n f.meaning app) (firing_at app s.event) (firings app ss) one ∙ rest_fired.solo;
        listed = rest_fired.listed;
      }

-- 2. What the one runtime is then

at_place : (n : Nets) (v : Meaning) (app : AppId) (place : ℕ) (stream : Stream) → slice_get (runtime_of n v app).streams place ≡ Some stream → stream ≡ stream_in v app place
at_place n v app place stream e =
    let within : place < length (n.net app).connections = subst (λ (k : ℕ). place < k) (listed_length (stream_in v app) 0 (length (n.net app).connections)) (slice_get_within (runtime_of n v app).streams place stream e) in
    let k : 0 + place ≡ place = omega arith in
    sym (same_Some (stream_in v app (0 + place)) stream (sym (listed_at (stream_in v app) 0 (length (n.net app).connections) place within) ∙ e)) ∙ ap (stream_in v app) k

at_actor : (n : Nets) (v : Meaning) (app : AppId) (a : ActorId) → a.app ≡ app → a.actor < length (n.net a.app).actors → slots_of (runtime_of n v app) a.actor ≡ v.slots a
at_actor n v app a same within =
    let low : a.actor < length (n.net app).actors = subst (λ (d : AppId). a.actor < length (n.net d).actors) same within in
    let k : 0 + a.actor ≡ a.actor = omega arith in
    ap (λ (o : Option (List Token)). unwrap_or o []) (listed_at (slots_in v app) 0 (length (n.net app).actors) a.actor low) ∙ λ z. v.slots (record { app = sym same z; actor = k z })

alone_at : (n : Nets) (openings : ℕ → NodeState) (start : Meaning) (begins : List Step) (app : AppId) (r : Reaches n openings start begins) → Fired n app start (firings app begins) r.meaning → Alone n openings start (runtime_of n start app) begins app
alone_at n openings start begins app r f = record {
  world = r.world;
  meaning = r.meaning;
  reached = r.reached;
  runtime = runtime_of n r.meaning app;
  defined = f.solo;
  streams =
      λ place stream e.
      let c : ConnId = conn_in app place in
      subst (IsBegun (r.meaning.got c)) (sym (at_place n r.meaning app place stream e)) (record {
        prefix = prefix_of (r.meaning.got c) (r.meaning.wrote c) (r.agrees.streams.ordered c);
        taken = r.agrees.streams.taken c;
      });
  all_streams = listed_length (stream_in r.meaning app) 0 (length (n.net app).connections);
  slots =
      λ i s a l same e there.
      let state : r.world.nodes i ≡ s = same_Some (r.world.nodes i) s (sym (r.states i) ∙ e) in
      let here = is_here n r.world.nodes r.world.frames r.meaning r.history i a l r.agrees (ap (λ (t : NodeState). fin.get t.live a) state ∙ there) in
      let within = f.listed.listed a (λ none. nowhere_not_at i (sym none ∙ here.owner)) in
      at_actor n r.meaning app a same within ∙ sym (ap (λ (x : Actor). x.slots) here.actor ∙ (r.agrees.streams.actors a).alike.slots);
}

-- 3. Every record

pub each_agreed : FromAgreed EachAlone
each_agreed n openings start h journals m g run nets begins rest app stands known wired =
    let r = reached n openings start h journals m g run nets begins rest stands in
    alone_at n openings start begins app r (fired_on n openings start m nets app wired [] begins rest stands (opened openings) start refl known (r.world, r.meaning) r.reached)

-- the one runtime before anything was deployed

slots_first : (n : Nets) (app : AppId) (k : ℕ) (actors : List ActorSpec) → ((j : ℕ) → slice_get (n.net app).actors (k + j) ≡ slice_get actors j) → listed (slots_in (nothing_yet n) app) k (length actors) ≡ map (λ (a : ActorSpec). (row_of a.kind).start a.args) actors
slots_first n app k [] same = refl
slots_first n app k (a ∷ actors) same =
    let z : k + 0 ≡ k = omega arith in
    let spec : unwrap_or (slice_get (n.net app).actors k) n.nobody ≡ a = ap (λ (j : ℕ). unwrap_or (slice_get (n.net app).actors j) n.nobody) (sym z) ∙ ap (λ (o : Option ActorSpec). unwrap_or o n.nobody) (same 0) in
    let rest = slots_first n app (suc k) actors (λ j. let e : suc k + j ≡ k + suc j = omega arith in ap (slice_get (n.net app).actors) e ∙ same (suc j)) in
    λ i. (row_of (spec i).kind).start (spec i).args ∷ rest i

streams_first : (n : Nets) (app : AppId) (k count : ℕ) → listed (stream_in (nothing_yet n) app) k count ≡ replicate count (record { wrote = []; took = 0 })
streams_first n app k zero = refl
streams_first n app k (suc count) = ap (λ (ss : List Stream). record { wrote = []; took = 0 } ∷ ss) (streams_first n app (suc k) count)

pub runtime_first : (n : Nets) (app : AppId) → runtime_of n (nothing_yet n) app ≡ opening (n.net app)
runtime_first n app =
    let slots = slots_first n app 0 (n.net app).actors (λ j. let e : 0 + j ≡ j = omega arith in ap (slice_get (n.net app).actors) e) in
    let streams = streams_first n app 0 (length (n.net app).connections) in
    λ z. record { slots = slots z; streams = streams z }

pub each_opened : FromNothing EachFromStart
each_opened specs nobody journals m numbers run begins rest app stands wired =
    let n : Nets = nets_of nobody journals in
    let openings : ℕ → NodeState = λ i. node_opening (specs i) in
    let a = each_agreed n openings (nothing_yet n) (no_moves n) journals m (agrees_nowhere n specs numbers) run (carry_nets specs nobody journals m numbers run) begins rest app stands (record { listed = λ b some. absurd (some refl) }) wired in
    subst (λ (r : Runtime). Alone n openings (nothing_yet n) r begins app) (runtime_first n app) a
