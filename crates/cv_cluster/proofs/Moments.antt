-- The least moment that an action waits for at a node of all.
use Rattle.std.proofs.Common.{◌≡◌, ◌⊎◌, inl, inr, ℕ, zero, suc, ◌+◌, ◌<◌, min, List, map, length, slice_get, Option, Some, None, refl, sym, ◌∙◌, ap, subst, arith}
use Rattle.std.proofs.Math.Nat.{min-le_left, min-le_right}
use Rattle.std.proofs.lemmas.Option.{same_Some, slice_get_within}
use Rattle.cv_token.specs.declared.identifiers.ActorId.{ActorId}
use Rattle.cv_protocol.specs.NodeState.{NodeState}
use Rattle.cv_state.specs.Waking.{IsNextDue, Wakes}
use Rattle.cv_node.specs.Journalled.{Journalled}
use Rattle.cv_station.specs.declared.station.Station.{Station}
use Rattle.cv_mesh.specs.Moving.{Each, Looks}
use Rattle.cv_mesh.proofs.Listing.{contains_at, contains_map, mapped_at, place_of}
use Rattle.cv_cluster.specs.Cluster.{ClusterView}
use Rattle.cv_cluster.specs.Holding.{node_of}
use Rattle.cv_cluster.specs.Ticking.{DueBelow, IsBefore, SomeWakes, StationTicks, Ticks, TicksTo, WakesAt, WakesIn, earlier}
use Rattle.cv_cluster.proofs.Lists.{each_map}

-- 1. Two moments

which_min : (u v : ℕ) → (min u v ≡ u) ⊎ (min u v ≡ v)
which_min zero v = inl (omega arith)
which_min (suc u) zero = inr (omega arith)
which_min (suc u) (suc v) =
    elim (which_min u v) [ inl h ↦ inl (omega (arith, h)) | inr h ↦ inr (omega (arith, h)) ]

before_left : (due next : Option ℕ) (t : ℕ) → IsBefore due t → IsBefore (earlier due next) t
before_left None next t before = absurd before
before_left (Some u) None t before = before
before_left (Some u) (Some v) t before = let least = min-le_left u v in omega (arith, before, least)

before_right : (due next : Option ℕ) (t : ℕ) → IsBefore next t → IsBefore (earlier due next) t
before_right None next t before = before
before_right (Some u) None t before = absurd before
before_right (Some u) (Some v) t before = let least = min-le_right u v in omega (arith, before, least)

next_before : (s : NodeState) (next : Option ℕ) (a : ActorId) (t : ℕ) → IsNextDue s next → Wakes s a t → IsBefore next t
next_before s None a t none wakes = none a t wakes
next_before s (Some u) a t next wakes = next.least a t wakes

-- 2. One station more

found_next : (ss : List Station) (k : ℕ) (s : Station) (next : Option ℕ) → slice_get ss k ≡ Some s → IsNextDue s.node.state next → (t : ℕ) → next ≡ Some t → (place : ℕ) × WakesIn ss place t
found_next ss k s None at due t is = absurd (cc)
found_next ss k s (Some u) at due t is =
    (k, record { station = s; there = at; actor = due.actor; wakes = subst (Wakes s.node.state due.actor) (same_Some u t is) due.wakes })

found_more : (ss : List Station) (k : ℕ) (s : Station) (due next : Option ℕ) → slice_get ss k ≡ Some s → ((t : ℕ) → due ≡ Some t → (place : ℕ) × WakesIn ss place t) → IsNextDue s.node.state next → (t : ℕ) → earlier due next ≡ Some t → (place : ℕ) × WakesIn ss place t
found_more ss k s None next at before due t is = found_next ss k s next at due t is
found_more ss k s (Some u) None at before due t is = before t is
found_more ss k s (Some u) (Some v) at before due t is =
    elim (which_min u v) [
      | inl h ↦ before t (ap Some (sym h) ∙ is)
      | inr h ↦ found_next ss k s (Some v) at due t (ap Some (sym h) ∙ is)
    ]

below_or : (i k : ℕ) → i < k + 1 → (i < k) ⊎ (i ≡ k)
below_or zero zero h = inr refl
below_or zero (suc k) h = inl (omega arith)
below_or (suc i) zero h = absurd (omega (arith, h))
below_or (suc i) (suc k) h = elim (below_or i k (omega (arith, h))) [ inl low ↦ inl (omega (arith, low)) | inr same ↦ inr (ap suc same) ]

pub due_none : (ss : List Station) → DueBelow ss 0 None
due_none ss = record { wakes = λ t is. absurd (cc); least = λ place t low wakes. absurd (omega (arith, low)) }

pub due_more : (ss : List Station) (k : ℕ) (s : Station) (due next : Option ℕ) → slice_get ss k ≡ Some s → DueBelow ss k due → IsNextDue s.node.state next → DueBelow ss (k + 1) (earlier due next)
due_more ss k s due next at below is = record {
  wakes = found_more ss k s due next at below.wakes is;
  least = λ place t low wakes.
      elim (below_or place k low) [
        | inl lower ↦ before_left due next t (below.least place t lower wakes)
        | inr same ↦ (let here : wakes.station ≡ s = same_Some wakes.station s (sym wakes.there ∙ ap (slice_get ss) same ∙ at) in before_right due next t (next_before s.node.state next wakes.actor t is (subst (λ (z : Station). Wakes z.node.state wakes.actor t) here wakes.wakes)))
      ];
}

-- 3. All stations

at_nodes : (ss : List Station) (t : ℕ) → (place : ℕ) × WakesIn ss place t → WakesAt (map node_of ss) t
at_nodes ss t found =
    let w = found.1 in record {
      node = w.station.node;
      there = contains_map node_of ss w.station (contains_at ss found.0 w.station w.there);
      actor = w.actor;
      wakes = w.wakes;
    }

in_stations : (ss : List Station) (t : ℕ) → WakesAt (map node_of ss) t → (place : ℕ) × (place < length ss) × WakesIn ss place t
in_stations ss t w =
    let p = place_of (map node_of ss) w.node w.there in
    let s = mapped_at node_of ss p.0 w.node p.1 in
    (p.0, slice_get_within ss p.0 s.0 s.1, record { station = s.0; there = s.1; actor = w.actor; wakes = subst (λ (n : Journalled). Wakes n.state w.actor t) (sym s.2) w.wakes })

pub none_wakes : (ss : List Station) → DueBelow ss (length ss) None → SomeWakes (map node_of ss) → ⊥
none_wakes ss due some = let w = in_stations ss some.0 some.1 in due.least w.0 some.0 w.1 w.2

pub some_wakes : (ss : List Station) (moment : ℕ) → DueBelow ss (length ss) (Some moment) → WakesAt (map node_of ss) moment
some_wakes ss moment due = at_nodes ss moment (due.wakes moment refl)

pub ticks_look : (t : ℕ) (s u v : Station) → StationTicks t s u → Looks u v → StationTicks t s v
ticks_look t s u v ticks looks = subst (TicksTo t s.node) (sym looks.node) ticks

pub all_tick : (old new : ClusterView) (ss us : List Station) (moment : ℕ) → old.nodes ≡ map node_of ss → new.nodes ≡ map node_of us → new.items ≡ old.items → new.failed ≡ old.failed → DueBelow ss (length ss) (Some moment) → Each (StationTicks moment) ss us → Ticks old new
all_tick old new ss us moment before after items failed due ticks = record {
  moment = moment;
  wakes = subst (λ (ns : List Journalled). WakesAt ns moment) (sym before) (some_wakes ss moment due);
  least = λ t wakes. let w = in_stations ss t (subst (λ (ns : List Journalled). WakesAt ns t) before wakes) in due.least w.0 t w.1 w.2;
  items = items;
  failed = failed;
  nodes = subst (λ (ns : List Journalled). Each (TicksTo moment) ns new.nodes) (sym before) (subst (λ (ns : List Journalled). Each (TicksTo moment) (map node_of ss) ns) (sym after) (each_map node_of (StationTicks moment) (TicksTo moment) (λ s u k. k) ss us ticks));
}
