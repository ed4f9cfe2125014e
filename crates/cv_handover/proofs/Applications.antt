-- The rows of applications: one is destroyed at a node, or deployed there.
use Rattle.std.proofs.Common.{◌≡◌, inl, inr, ℕ, zero, suc, ◌+◌, ◌<◌, ◌≤◌, Bool, true, false, not, cond, ◌&&◌, List, [], ◌∷◌, ◌++◌, length, map, Option, Some, None, refl, sym, ap, subst, ◌∙◌, arith, true≢false}
use Rattle.std.specs.Prelude.{nat_lt, option_map, unwrap_or, slice_get}
use Rattle.std.proofs.lemmas.Bool.{and_parts, ltb-true, lt-ltb}
use Rattle.std.proofs.lemmas.Option.{same_Some, none-some as none_some, slice_get_cases}
use Rattle.std.specs.FinMap as fin
use Rattle.cv_token.specs.declared.identifiers.AppId.{AppId}
use Rattle.cv_token.specs.declared.identifiers.ActorId.{ActorId}
use Rattle.cv_table.specs.Order.{actor_cmp, same_app}
use Rattle.cv_table.proofs.Views.{same_app-cases, same_actor-cases, get_inserted, get_retained}
use Rattle.cv_kinds.specs.declared.network.ActorSpec.{ActorSpec}
use Rattle.cv_kinds.specs.declared.network.Connection.{Connection}
use Rattle.cv_kinds.specs.Net.{Net}
use Rattle.cv_protocol.specs.declared.frame.Body.TheVariants as body
use Rattle.cv_protocol.specs.declared.frame.Frame.{Frame}
use Rattle.cv_protocol.specs.declared.moving.Application.{Application}
use Rattle.cv_protocol.specs.declared.moving.Application.TheVariants as known
use Rattle.cv_protocol.specs.Actors.{LiveState}
use Rattle.cv_protocol.specs.Travel.{new_actor, new_live}
use Rattle.cv_protocol.specs.NodeState.{NodeState}
use Rattle.cv_protocol.specs.Owners.{Owners, Nowhere, without_app, with_deployed, is_of}
use Rattle.cv_protocol.specs.Rows.{Deployed, next_app, all_live, elsewhere, frame_to, deployed_state, deploy, destroyed_state, destroyed, other_nodes, destroy}
use Rattle.cv_handover.specs.World.{World, at}
use Rattle.cv_handover.specs.Meaning.{Nets, Meaning, spec_of}
use Rattle.cv_handover.specs.Agree.{living, copy_of, lives, copies, records, History, WasTried, IsUnheard, Numbered, Sent, Agree}
use Rattle.cv_handover.proofs.Places.{some_of, at_cases}
use Rattle.cv_handover.proofs.Goes.{Goes, GoesIfFew, seen_same, copies_same, records_same, numbered_kept, owned_carried, kept_carried}
use Rattle.cv_handover.proofs.Growing.{outlasts_copies, sent_later, sent_one}
use Rattle.cv_handover.proofs.Copies.{streams_owner}
use Rattle.cv_handover.proofs.Departing.{lengthens_owner}
use Rattle.cv_handover.proofs.Many.{without_cases, owned_gone, kept_gone, deployed_cases, as_copied, owned_come, kept_come}
use Rattle.cv_handover.proofs.Standing.{nowhere_not_at, none_of, is_absent}
use Rattle.cv_handover.proofs.Wholes.{seen_some}

-- 1. Destroy

is_false : (b : Bool) → ((b ≡ true) → ⊥) → b ≡ false
is_false true never = absurd (never refl)
is_false false never = refl

-- that an application is destroyed is true of every frame that says so
sent_destroyed : (m : Meaning) (h : History) (s : NodeState) (stamp : ℕ) (app : AppId) (nodes : List ℕ) (frames : List Frame) → Sent m h frames → Sent m h (map (λ node. frame_to s stamp node (body.Destroy app)) nodes ++ frames)
sent_destroyed m h s stamp app [] frames old = old
sent_destroyed m h s stamp app (node ∷ nodes) frames old = sent_one m h (frame_to s stamp node (body.Destroy app)) (map (λ k. frame_to s stamp k (body.Destroy app)) nodes ++ frames) tt (sent_destroyed m h s stamp app nodes frames old)

module _ (n : Nets) (w : World) (m : Meaning) (h : History) (i : ℕ) (g : Agree n w.nodes w.frames m h) (app : AppId) where
  gone_unheard : (b : ActorId) → IsUnheard n m h b → IsUnheard n (record m { owner = without_app m.owner i app }) h b
  gone_unheard b u = record {
    owner =
        elim (without_cases m.owner i app b) [
          | inl s ↦ s.2
          | inr s ↦ s.1 ∙ u.owner
        ];
    attempt = u.attempt;
    copy = u.copy;
  }

  -- what is seen of a table without the application's actors
  without : (b : ActorId) (same : Bool) → same_app b.app app ≡ same → option_map living (fin.get (fin.retain_keys (w.nodes i).live (elsewhere app)) b) ≡ option_map living (cond (not same) (fin.get (w.nodes i).live b) None)
  without b same is =
      ap (option_map living) (get_retained (w.nodes i).live (elsewhere app) b) ∙ ap (λ (t : Bool). option_map living (cond (not t) (fin.get (w.nodes i).live b) None)) is

  none_lives : lives (at w.nodes i (destroyed_state (w.nodes i) app)) ≡ some_of (lives w.nodes) i (λ c. same_app c.app app) (λ c. None)
  none_lives =
      seen_some (λ u b. option_map living (fin.get u.live b)) w.nodes i (destroyed_state (w.nodes i) app) (λ c. same_app c.app app) (λ c. None) (λ b same. without b true same) (λ b other. without b false (is_false (same_app b.app app) other))

  agrees_destroyed : (frames : List Frame) → Sent m h frames → Agree n (at w.nodes i (destroyed_state (w.nodes i) app)) frames (record m { owner = without_app m.owner i app }) h
  agrees_destroyed frames sent =
      let t : NodeState = destroyed_state (w.nodes i) app in
      let owner : Owners = without_app m.owner i app in
      let v : Meaning = record m { owner = owner } in
      record {
        numbered = numbered_kept w.nodes i t n m v h h refl refl gone_unheard g.numbered;
        owned = owned_carried (some_of (lives w.nodes) i (λ c. same_app c.app app) (λ c. None)) (lives (at w.nodes i t)) v h none_lives (owned_gone (lives w.nodes) m.owner h i app g.owned);
        kept = kept_carried (copies w.nodes) (copies (at w.nodes i t)) (records w.nodes) (records (at w.nodes i t)) v h (copies_same w.nodes i t refl) (records_same w.nodes i t refl) (kept_gone (lives w.nodes) m.owner h i app (copies w.nodes) (records w.nodes) g.kept);
        streams = streams_owner n m h.copy owner g.streams;
        sent = sent_later m v h h frames (lengthens_owner m owner) (outlasts_copies h h.copy) sent;
      }

  pub goes_destroyed : Goes n w m i (destroyed (w.nodes i) app)
  goes_destroyed = record {
    meaning = record m { owner = without_app m.owner i app };
    history = h;
    means_it = refl;
    agrees = agrees_destroyed w.frames g.sent;
  }

  pub leads_destroy : (stamp : ℕ) (x : Option Application) → GoesIfFew n w m i (destroy (w.nodes i) stamp app x)
  leads_destroy stamp None = tt
  leads_destroy stamp (Some known.Destroyed) = tt
  leads_destroy stamp (Some (known.Known name net)) =
      λ fits.
      record {
        meaning = record m { owner = without_app m.owner i app };
        history = h;
        means_it = refl;
        agrees = agrees_destroyed (map (λ node. frame_to (w.nodes i) stamp node (body.Destroy app)) (other_nodes (w.nodes i)) ++ w.frames) (sent_destroyed m h (w.nodes i) stamp app (other_nodes (w.nodes i)) w.frames g.sent);
      }

-- 2. The actors of a network are put into a table

module _ {V : Type 0} (m : fin.FinMap actor_cmp V) (a : ActorId) (v : V) where
  inserted_there : fin.get (fin.insert m a v) a ≡ Some v
  inserted_there =
      elim (same_actor-cases a a) [
        | inl s ↦ get_inserted m a v a ∙ ap (λ (t : Bool). cond t (Some v) (fin.get m a)) s.0
        | inr s ↦ absurd (s.1 refl)
      ]

  inserted_beside : (b : ActorId) → ((b ≡ a) → ⊥) → fin.get (fin.insert m a v) b ≡ fin.get m b
  inserted_beside b apart =
      elim (same_actor-cases b a) [
        | inl s ↦ absurd (apart s.1)
        | inr s ↦ get_inserted m a v b ∙ ap (λ (t : Bool). cond t (Some v) (fin.get m b)) s.0
      ]

same_one : (a b : AppId) → a ≡ b → same_app a b ≡ true
same_one a b e =
    elim (same_app-cases a b) [
      | inl s ↦ s.0
      | inr s ↦ absurd (s.1 e)
    ]

one_same : (a b : AppId) → same_app a b ≡ true → a ≡ b
one_same a b e =
    elim (same_app-cases a b) [
      | inl s ↦ s.1
      | inr s ↦ absurd (true≢false (sym e ∙ s.0))
    ]

module _ (app : AppId) (connections : List Connection) (now : ℕ) where
  abbrev numbered : ℕ → ActorId
  numbered k = record { app = app; actor = k }

  abbrev with_one : fin.FinMap actor_cmp LiveState → ℕ → ActorSpec → fin.FinMap actor_cmp LiveState
  with_one live k spec = fin.insert live (numbered k) (new_live app connections k spec now)

  -- actors of other numbers are left as they were
  live_beside : (specs : List ActorSpec) (first : ℕ) (live : fin.FinMap actor_cmp LiveState) (b : ActorId) → (b.app ≡ app → first ≤ b.actor → b.actor < first + length specs → ⊥) → fin.get (all_live app connections now first specs live) b ≡ fin.get live b
  live_beside [] first live b out = refl
  live_beside (spec ∷ specs) first live b out =
      let number : b ≡ numbered first → b.actor ≡ first = ap (λ (x : ActorId). x.actor) in
      let apart : b ≡ numbered first → ⊥ = λ e. let k = number e in out (ap (λ (x : ActorId). x.app) e) (omega (arith, k)) (omega (arith, k)) in
      live_beside specs (suc first) (with_one live first spec) b (λ same low high. out same (omega arith) (omega arith)) ∙ inserted_beside live (numbered first) (new_live app connections first spec now) b apart

  -- each actor of the network lives as it is at the start
  live_there : (specs : List ActorSpec) (first place : ℕ) (spec : ActorSpec) (live : fin.FinMap actor_cmp LiveState) → slice_get specs place ≡ Some spec → fin.get (all_live app connections now first specs live) (numbered (first + place)) ≡ Some (new_live app connections (first + place) spec now)
  live_there [] first place spec live is = absurd (none_some spec is)
  live_there (x ∷ specs) first zero spec live is =
      let later = live_beside specs (suc first) (with_one live first x) (numbered first) (λ one low high. omega arith) in
      let here = inserted_there live (numbered first) (new_live app connections first x now) in
      let same = ap (λ (y : ActorSpec). Some (new_live app connections first y now)) (same_Some x spec is) in
      let number : first ≡ first + 0 = omega arith in
      subst (λ (k : ℕ). fin.get (all_live app connections now first (x ∷ specs) live) (numbered k) ≡ Some (new_live app connections k spec now)) number (later ∙ here ∙ same)
  live_there (x ∷ specs) first (suc place) spec live is =
      let number : suc first + place ≡ first + suc place = omega arith in
      subst (λ (k : ℕ). fin.get (all_live app connections now first (x ∷ specs) live) (numbered k) ≡ Some (new_live app connections k spec now)) number (live_there specs (suc first) place spec (with_one live first x) is)

-- 3. Deploy

found : (specs : List ActorSpec) (place : ℕ) → place < length specs → (spec : ActorSpec) × (slice_get specs place ≡ Some spec)
found specs place low =
    elim (slice_get_cases specs place).1 [
      | inl s ↦ (s.0, s.2)
      | inr s ↦ absurd (omega (arith, s.0))
    ]

module _ (n : Nets) (w : World) (m : Meaning) (h : History) (i : ℕ) (g : Agree n w.nodes w.frames m h) (net : Net) (carries : net ≡ n.net (next_app (w.nodes i))) where
  -- nobody has heard of the next application
  unheard : (b : ActorId) → b.app ≡ next_app (w.nodes i) → IsUnheard n m h b
  unheard b is =
      let node : b.app.node ≡ i = ap (λ (x : AppId). x.node) is ∙ g.numbered.number i in
      let seq : b.app.seq ≡ (w.nodes i).known.deployed + 1 = ap (λ (x : AppId). x.seq) is in
      let deployed : (w.nodes b.app.node).known.deployed ≡ (w.nodes i).known.deployed = ap (λ (k : ℕ). (w.nodes k).known.deployed) node in
      g.numbered.unheard b (omega (arith, seq, deployed))

  no_copy : (b : ActorId) → b.app ≡ next_app (w.nodes i) → copies w.nodes i b ≡ None
  no_copy b is =
      let u = unheard b is in
      none_of (copies w.nodes i b) (λ f there. let c : WasTried h b f.attempt = (g.kept.frozen_ok i b f there).tried in let none : h.attempt b ≡ 0 = u.attempt in absurd (omega (arith, c.0, c.1, none)))

  no_life : (b : ActorId) → b.app ≡ next_app (w.nodes i) → lives w.nodes i b ≡ None
  no_life b is = is_absent w.nodes m h i b (λ here. nowhere_not_at i (sym (unheard b is).owner ∙ here)) g.owned

  -- an actor of the network as it is at the start is the one copy of it
  as_fresh : (b : ActorId) (spec : ActorSpec) → b.app ≡ next_app (w.nodes i) → slice_get net.actors b.actor ≡ Some spec → new_actor (next_app (w.nodes i)) net.connections b.actor spec ≡ h.copy b
  as_fresh b spec is there =
      let u = unheard b is in
      let nets : n.net b.app ≡ net = ap n.net is ∙ sym carries in
      let specs : spec_of n b ≡ spec = ap (λ (x : Net). unwrap_or (slice_get x.actors b.actor) n.nobody) nets ∙ ap (λ (x : Option ActorSpec). unwrap_or x n.nobody) there in
      sym (u.copy ∙ (λ z. new_actor (is z) (nets z).connections b.actor (specs z)))

module _ (n : Nets) (w : World) (m : Meaning) (h : History) (i : ℕ) (g : Agree n w.nodes w.frames m h) (name : List ℕ) (net : Net) (carries : net ≡ n.net (next_app (w.nodes i))) where
  come_there : (b : ActorId) → is_of (next_app (w.nodes i)) net b ≡ true → option_map living (fin.get (deployed_state (w.nodes i) name net (next_app (w.nodes i))).live b) ≡ as_copied h b
  come_there b is =
      let s : NodeState = w.nodes i in
      let app : AppId = next_app s in
      let others = fin.retain_keys s.live (elsewhere app) in
      let table = all_live app net.connections s.now 0 net.actors others in
      let parts = and_parts (same_app b.app app) (nat_lt b.actor (length net.actors)) is in
      let one : b.app ≡ app = one_same b.app app parts.0 in
      let spec = found net.actors b.actor (ltb-true _ _ parts.1) in
      let number : 0 + b.actor ≡ b.actor = omega arith in
      let lives_so : ℕ → Type 0 = λ k. fin.get table (record { app = app; actor = k }) ≡ Some (new_live app net.connections k spec.0 s.now) in
      let there : lives_so b.actor = subst lives_so number (live_there app net.connections s.now net.actors 0 b.actor spec.0 others spec.1) in
      let key : b ≡ record { app = app; actor = b.actor } = λ z. record { app = one z; actor = b.actor } in
      let fresh_one : new_actor app net.connections b.actor spec.0 ≡ h.copy b = as_fresh n w m h i g net carries b spec.0 one spec.1 in
      let first : 0 ≡ h.attempt b = sym (unheard n w m h i g net carries b one).attempt in
      ap (λ (c : ActorId). option_map living (fin.get table c)) key ∙ ap (option_map living) there ∙ (λ z. Some (record { actor = fresh_one z; attempt = first z }))

  not_kept : {V W : Type 0} (f : V → W) (m : fin.FinMap actor_cmp V) (b : ActorId) → (b.app ≡ next_app (w.nodes i) → option_map f (fin.get m b) ≡ None) → option_map f (fin.get (fin.retain_keys m (elsewhere (next_app (w.nodes i)))) b) ≡ option_map f (fin.get m b)
  not_kept f m b none =
      ap (option_map f) (get_retained m (elsewhere (next_app (w.nodes i))) b) ∙ elim (same_app-cases b.app (next_app (w.nodes i))) [
        | inl s ↦ ap (λ (t : Bool). option_map f (cond (not t) (fin.get m b) None)) s.0 ∙ sym (none s.1)
        | inr s ↦ ap (λ (t : Bool). option_map f (cond (not t) (fin.get m b) None)) s.0
      ]

  stay_there : (b : ActorId) → ((is_of (next_app (w.nodes i)) net b ≡ true) → ⊥) → option_map living (fin.get (deployed_state (w.nodes i) name net (next_app (w.nodes i))).live b) ≡ option_map living (fin.get (w.nodes i).live b)
  stay_there b other =
      let s : NodeState = w.nodes i in
      let out : b.app ≡ next_app s → 0 ≤ b.actor → b.actor < 0 + length net.actors → ⊥ = λ one low high. let below : b.actor < length net.actors = omega arith in other (ap (λ (t : Bool). t && nat_lt b.actor (length net.actors)) (same_one b.app (next_app s) one) ∙ lt-ltb b.actor (length net.actors) below) in
      ap (option_map living) (live_beside (next_app s) net.connections s.now net.actors 0 (fin.retain_keys s.live (elsewhere (next_app s))) b out) ∙ not_kept living s.live b (no_life n w m h i g net carries b)

  come_unheard : (b : ActorId) → (at w.nodes i (deployed_state (w.nodes i) name net (next_app (w.nodes i))) b.app.node).known.deployed < b.app.seq → ((b.app ≡ next_app (w.nodes i)) → ⊥) × ((w.nodes b.app.node).known.deployed < b.app.seq)
  come_unheard b high =
      elim (at_cases w.nodes i (deployed_state (w.nodes i) name net (next_app (w.nodes i))) b.app.node) [
        | inl x ↦
            let more : (w.nodes i).known.deployed + 1 < b.app.seq = subst (λ (u : NodeState). u.known.deployed < b.app.seq) x.1 high in
            let same : (w.nodes b.app.node).known.deployed ≡ (w.nodes i).known.deployed = ap (λ (k : ℕ). (w.nodes k).known.deployed) x.0 in
            (λ one. let seq : b.app.seq ≡ (w.nodes i).known.deployed + 1 = ap (λ (y : AppId). y.seq) one in omega (arith, more, seq), omega (arith, more, same))
        | inr x ↦ (λ one. x.0 (ap (λ (y : AppId). y.node) one ∙ g.numbered.number i), subst (λ (u : NodeState). u.known.deployed < b.app.seq) x.1 high)
      ]

  new_owner : (b : ActorId) → is_of (next_app (w.nodes i)) net b ≡ true → b.app ≡ next_app (w.nodes i)
  new_owner b is = one_same b.app (next_app (w.nodes i)) (and_parts (same_app b.app (next_app (w.nodes i))) (nat_lt b.actor (length net.actors)) is).0

  numbered_come : Numbered n (at w.nodes i (deployed_state (w.nodes i) name net (next_app (w.nodes i)))) (record m { owner = with_deployed m.owner i (next_app (w.nodes i)) net }) h
  numbered_come = record {
    number =
        λ k.
        elim (at_cases w.nodes i (deployed_state (w.nodes i) name net (next_app (w.nodes i))) k) [
          | inl x ↦ ap (λ (u : NodeState). u.spec.no) x.1 ∙ g.numbered.number i ∙ sym x.0
          | inr x ↦ ap (λ (u : NodeState). u.spec.no) x.1 ∙ g.numbered.number k
        ];
    unheard =
        λ b high.
        let y = come_unheard b high in
        let u = g.numbered.unheard b y.1 in
        record {
          owner =
              elim (deployed_cases m.owner i (next_app (w.nodes i)) net b) [
                | inl s ↦ absurd (y.0 (new_owner b s.0))
                | inr s ↦ s.1 ∙ u.owner
              ];
          attempt = u.attempt;
          copy = u.copy;
        };
  }

  pub goes_deployed : (fit : Bool) → Goes n w m i (record { next = deployed_state (w.nodes i) name net (next_app (w.nodes i)); sends = []; deed = Deployed (next_app (w.nodes i)) net; fits = fit })
  goes_deployed fit =
      let app : AppId = next_app (w.nodes i) in
      let t : NodeState = deployed_state (w.nodes i) name net app in
      let owner : Owners = with_deployed m.owner i app net in
      let v : Meaning = record m { owner = owner } in
      let nobody : (b : ActorId) → is_of app net b ≡ true → m.owner b ≡ Nowhere = λ b is. (unheard n w m h i g net carries b (new_owner b is)).owner in
      let lived : lives (at w.nodes i t) ≡ some_of (lives w.nodes) i (is_of app net) (as_copied h) = seen_some (λ u b. option_map living (fin.get u.live b)) w.nodes i t (is_of app net) (as_copied h) come_there stay_there in
      let copied : copies (at w.nodes i t) ≡ copies w.nodes = seen_same (λ u b. option_map copy_of (fin.get u.moves.frozen b)) w.nodes i t (λ b. not_kept copy_of (w.nodes i).moves.frozen b (no_copy n w m h i g net carries b)) in
      record {
        meaning = v;
        history = h;
        means_it = refl;
        agrees = record {
          numbered = numbered_come;
          owned = owned_carried (some_of (lives w.nodes) i (is_of app net) (as_copied h)) (lives (at w.nodes i t)) v h lived (owned_come (lives w.nodes) m.owner h i app net nobody g.owned);
          kept = kept_carried (copies w.nodes) (copies (at w.nodes i t)) (records w.nodes) (records (at w.nodes i t)) v h copied (records_same w.nodes i t refl) (kept_come (lives w.nodes) m.owner h i app net nobody (copies w.nodes) (records w.nodes) g.kept);
          streams = streams_owner n m h.copy owner g.streams;
          sent = sent_later m v h h w.frames (lengthens_owner m owner) (outlasts_copies h h.copy) g.sent;
        };
      }

  pub leads_deploy : (b : Bool) → GoesIfFew n w m i (deploy (w.nodes i) name net b)
  leads_deploy false = tt
  leads_deploy true = λ fits. goes_deployed _
