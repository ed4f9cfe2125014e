-- What the record of an honest cluster that ran says of the run.
use Rattle.std.proofs.Common.{◌≡◌, inl, inr, ℕ, ◌==◌, true, false, is_some, List, [], ◌∷◌, ◌++◌, length, map, slice_get, Some, Contains, refl, sym, ap, ◌∙◌, subst, arith, append_assoc}
use Rattle.std.specs.List.{range_with_len}
use Rattle.std.proofs.lemmas.List.{append-nil}
use Rattle.std.proofs.lemmas.List.Concat.{flat_map-append}
use Rattle.std.proofs.lemmas.List.Sums.{sum_by-cons}
use Rattle.cv_kinds.specs.declared.network.ActorSpec.{ActorSpec}
use Rattle.cv_kinds.specs.declared.kind.Kind.TheVariants as kind
use Rattle.cv_flow.specs.declared.kind.FlowKind.TheVariants as flow
use Rattle.cv_kinds.specs.Net.{Net}
use Rattle.cv_kinds.specs.Wired.{IsWired}
use Rattle.cv_protocol.specs.declared.event.Entry.{Entry}
use Rattle.cv_protocol.specs.declared.event.Event.{Event}
use Rattle.cv_protocol.specs.declared.event.Event.TheVariants as event
use Rattle.cv_protocol.specs.declared.event.Record.{Record}
use Rattle.cv_protocol.specs.declared.event.Step.{Step}
use Rattle.cv_protocol.specs.Journals.{entry_of, own_entry, entries_of, IsLocalRun, FramesWereSent, Sends}
use Rattle.cv_protocol.specs.NodeRow.{row, stamp_of}
use Rattle.cv_protocol.specs.Owners.{Owners}
use Rattle.cv_token.specs.declared.identifiers.ActorId.{ActorId}
use Rattle.cv_table.specs.Order.{same_app}
use Rattle.cv_protocol.specs.NodeState.{NodeState}
use Rattle.cv_node.specs.Counts.{firing_count}
use Rattle.cv_node.specs.Journalled.{Journalled}
use Rattle.cv_link.specs.declared.items.Item.{Item}
use Rattle.cv_merge.specs.Laws.{GotOnlySent}
use Rattle.cv_merge.proofs.Bridge.{sent_before}
use Rattle.cv_merge.proofs.Sorting.{own_is}
use Rattle.cv_mesh.specs.Going.{is_of_run}
use Rattle.cv_mesh.specs.Links.{LinkKept}
use Rattle.cv_mesh.specs.Moving.{Each}
use Rattle.cv_mesh.proofs.Listing.{contains_map, map_again, same_map}
use Rattle.cv_cluster.specs.Cluster.{ClusterView, GoesOn, Grows, Stops, firings_of, node_number}
use Rattle.cv_alone.specs.declared.alone.RunEnd.{RunEnd}
use Rattle.cv_alone.specs.declared.alone.RunEnd.TheVariants.{Spent, Quiescent}
use Rattle.cv_alone.specs.Resting.{run_app}
use Rattle.cv_handover.specs.Placed.{owner_in}
use Rattle.cv_handover.specs.Runs.{CarriesNet, CarryNets, IsRun, OneOwner}
use Rattle.cv_handover.proofs.Placing.{each_placed, owners_placed}
use Rattle.cv_handover.specs.Runtimes.{firings}
use Rattle.cv_solo.specs.OneRuntime.{Runtime, solo}
use Rattle.cv_spread.specs.Clusters.{IsRecordFor, journals_of, node_at, opened_cluster}
use Rattle.cv_spread.specs.Placing.{IsNode, home, nets, node_specs, openings, owners, places}
use Rattle.cv_spread.specs.Spread.{EndsAfter, IsSpreadRun, StayAtHome}
use Rattle.cv_spread.proofs.Counting.{firing_steps, firings_by_node, firings_by_number}
use Rattle.cv_spread.proofs.Firings.{counted_all, cut_of, live_fires, reached}
use Rattle.cv_spread.proofs.Homes.{is_placed, only_if, owner_at, settled_home}
use Rattle.cv_spread.proofs.Journals.{Holder, held, own_journal, stands_in, step_there}
use Rattle.cv_spread.proofs.Ranges.{from_range, in_range, mapped_in}
use Rattle.cv_spread.proofs.Staying.{owners_stay, still_at}
use Rattle.cv_spread.proofs.Steady.{row_of}

-- anybody will do where nobody is meant
nobody : ActorSpec
nobody = record { path = []; kind = kind.Flow flow.Identity; args = [] }

-- 1. A run deploys nothing

carries : (net : Net) (nobody : ActorSpec) (s : NodeState) (e : Event) → is_of_run e ≡ true → CarriesNet (nets net nobody) s e
carries net nobody s (event.Deploy name other) own = absurd (cc)
carries net nobody s (event.Meet node attrs) own = tt
carries net nobody s (event.Tick now) own = tt
carries net nobody s (event.Peek a port) own = tt
carries net nobody s (event.Fire a action) own = tt
carries net nobody s (event.Pass conn) own = tt
carries net nobody s (event.Send conn) own = tt
carries net nobody s (event.Rewind conn) own = tt
carries net nobody s (event.Freeze a to) own = tt
carries net nobody s (event.Resend a) own = tt
carries net nobody s (event.Withdraw a) own = tt
carries net nobody s (event.Hint a attempt node) own = tt
carries net nobody s (event.Destroy app) own = tt
carries net nobody s (event.Lose f) own = tt
carries net nobody s (event.Deliver f) own = tt

-- 2. The end

pub record Ended (items : List Item) (net : Net) (nodes most : ℕ) (stop : RunEnd) (c : ClusterView) : Type 0 where
  pub fired : ℕ
  pub goes : GoesOn (opened_cluster nodes net items) c fired
  pub ends : EndsAfter most stop fired

pub ended : (items : List Item) (net : Net) (nodes most : ℕ) (stop : RunEnd) (c : ClusterView) → Stops (opened_cluster nodes net items) most stop c → Ended items net nodes most stop c
ended items net nodes most Spent c s = record { fired = most; goes = s; ends = refl }
ended items net nodes most Quiescent c s = record { fired = s.0; goes = s.2; ends = s.1 }

no_firings : (nodes : ℕ) (net : Net) (is : List ℕ) → firings_of (map (node_at nodes net) is) ≡ 0
no_firings nodes net [] = refl
no_firings nodes net (i ∷ is) =
    sum_by-cons (λ (n : Journalled). firing_count n.entries) (node_at nodes net i) (map (node_at nodes net) is) ∙ omega (arith, no_firings nodes net is)

-- 3. The run

abbrev base_of : Journalled → NodeState
base_of n = n.base

module _ (items : List Item) (net : Net) (nodes : ℕ) (c : ClusterView) (grown : Each Grows (opened_cluster nodes net items).nodes c.nodes) (m : Record) (r : IsRecordFor c m) where
  bases : map base_of c.nodes ≡ map (openings nodes net) (range_with_len 1 nodes)
  bases =
      same_map base_of (opened_cluster nodes net items).nodes c.nodes grown.long (λ i n at. let k = grown.all i n at in (k.0, k.1, k.2.based))
      ∙ map_again base_of (node_at nodes net) (range_with_len 1 nodes)

  specs : m.specs ≡ node_specs nodes
  specs =
      r.specs
      ∙ sym (map_again (λ (s : NodeState). s.spec) base_of c.nodes)
      ∙ ap (map (λ (s : NodeState). s.spec)) bases
      ∙ map_again (λ (s : NodeState). s.spec) (openings nodes net) (range_with_len 1 nodes)

  -- each node is one of those that opened, by its number
  record Opened (n : Journalled) : Type 0 where
    node : IsNode nodes (node_number n)
    base : n.base ≡ openings nodes net (node_number n)

  opened : (n : Journalled) → Contains c.nodes n → Opened n
  opened n there =
      let k = mapped_in (openings nodes net) (range_with_len 1 nodes) n.base (subst (λ (bs : List NodeState). Contains bs n.base) bases (contains_map base_of c.nodes n there)) in
      let number : k.0 ≡ node_number n = ap (λ (s : NodeState). s.spec.no) k.2 in
      let range = from_range 1 nodes k.0 k.1 in
      record {
        node = (omega (arith, number, range.0), omega (arith, number, range.1));
        base = sym k.2 ∙ ap (openings nodes net) number;
      }

  -- each number has its node
  node_of : (i : ℕ) → IsNode nodes i → (n : Journalled) × Contains c.nodes n × (node_number n ≡ i)
  node_of i range =
      let there = contains_map (openings nodes net) (range_with_len 1 nodes) i (in_range 1 nodes i range.0 (omega (arith, range.1))) in
      let n = mapped_in base_of c.nodes (openings nodes net i) (subst (λ (bs : List NodeState). Contains bs (openings nodes net i)) (sym bases) there) in
      (n.0, n.1, ap (λ (s : NodeState). s.spec.no) n.2)

  abbrev journals : ℕ → List Entry
  journals i = journals_of c.nodes i

  journal_of : (n : Journalled) → Contains c.nodes n → journals (node_number n) ≡ n.entries
  journal_of n there = own_journal c.nodes n r.honest.ascend there

  base_at : (i : ℕ) (h : Holder c.nodes i (journals i)) → h.node.base ≡ openings nodes net i
  base_at i h = (opened h.node h.there).base ∙ ap (openings nodes net) h.number

  among : (i : ℕ) → (¬ IsNode nodes i) → journals i ≡ []
  among i none =
      elim (held c.nodes i) [
        | inl h ↦ absurd (none (subst (IsNode nodes) h.number (opened h.node h.there).node))
        | inr empty ↦ empty
      ]

  local : (i : ℕ) → IsLocalRun (openings nodes net i) (journals i)
  local i =
      elim (held c.nodes i) [
        | inl h ↦
            subst (λ (es : List Entry). IsLocalRun (openings nodes net i) es) (sym h.entries) (subst (λ (s : NodeState). IsLocalRun s h.node.entries) (base_at i h) (ap is_some (r.honest.local h.node h.there).replays))
        | inr empty ↦ subst (λ (es : List Entry). IsLocalRun (openings nodes net i) es) (sym empty) refl
      ]

  -- whose entry it is
  held_by : (i : ℕ) (e : Entry) → Contains (journals i) e → Holder c.nodes i (journals i)
  held_by i e there =
      elim (held c.nodes i) [
        | inl h ↦ h
        | inr empty ↦ absurd (let none = subst (λ (es : List Entry). Contains es e) empty there in omega (arith, none.1))
      ]

  own : (i : ℕ) (e : Entry) → Contains (journals i) e → is_of_run e.event ≡ true
  own i e there =
      let h = held_by i e there in
      r.honest.own h.node e h.there (subst (λ (es : List Entry). Contains es e) h.entries there)

  got : GotOnlySent (openings nodes net) journals
  got i before after e f cut is =
      let there = stands_in (journals i) before after e cut in
      let h = held_by i e there in
      let w = r.honest.sent h.node e f h.there (subst (λ (es : List Entry). Contains es e) h.entries there) is in
      let base : w.sender.base ≡ openings nodes net f.from = (opened w.sender w.there).base ∙ ap (openings nodes net) (sym w.sent.from) in
      let stands : journals f.from ≡ w.sent.before ++ w.sent.entry ∷ w.sent.after =
      ap journals w.sent.from ∙ journal_of w.sender w.there ∙ w.sent.stands in
      record {
        before = w.sent.before;
        entry = w.sent.entry;
        after = w.sent.after;
        stands = stands;
        stamped = w.sent.stamped;
        sends = subst (λ (s : NodeState). Sends s w.sent.before w.sent.entry f) base w.sent.sends;
      }

  sent : FramesWereSent (openings nodes net) m.entries
  sent = sent_before (openings nodes net) journals m.entries local got r.entries

  is_run : IsRun (openings nodes net) journals m.entries
  is_run = record { record_of = r.entries; local = local; sent = sent }

  step_own : (s : Step) → Contains m.entries s → is_of_run s.event ≡ true
  step_own s there =
      own s.node (entry_of s) (subst (λ (es : List Entry). Contains es (entry_of s)) (r.entries.parts s.node) (step_there m.entries s there))

  carry : (nobody : ActorSpec) → CarryNets (nets net nobody) (openings nodes net) m.entries
  carry nobody before after step s cut is =
      carries net nobody s step.event (step_own step (stands_in m.entries before after step cut))

  -- the owners
  owners_hold : OneOwner (openings nodes net) (owners nodes net) m.entries
  owners_hold =
      owners_placed (nets net nobody) (home nodes net) (openings nodes net) journals m.entries (is_placed nodes net nobody) is_run (carry nobody)

  stay : (begins rest : List Step) → m.entries ≡ begins ++ rest → StayAtHome nodes net begins
  stay begins rest cut i s a is =
      let l = owners_hold begins rest cut in
      let same : l.owner ≡ owners nodes net =
      owners_stay (openings nodes net) (owners nodes net) begins l.owner (settled_home nodes net) (λ t there.
      let k = cut_of begins t there in
      still_at (openings nodes net) m.entries sent step_own k.before (k.after ++ rest) t (cut ∙ ap (λ (ss : List Step). ss ++ rest) k.stands ∙ append_assoc k.before (t ∷ k.after) rest)) l.folded in
      let at : l.owner a ≡ owners nodes net a = ap (λ (own : Owners). own a) same in
      let here = l.lives i s a is in
      (λ live. owner_at (home nodes net a) i (sym at ∙ here.0 live), λ h. here.1 (at ∙ ap owner_in h))

  -- each firing is of the run's application
  fires_own : (before after : List Step) (s : Step) → m.entries ≡ before ++ s ∷ after → (a : ActorId) (action : ℕ) → s.event ≡ event.Fire a action → same_app a.app run_app ≡ true
  fires_own before after s cut a action is =
      let i = s.node in
      let split : journals i ≡ entries_of i before ++ entry_of s ∷ entries_of i after =
      sym (r.entries.parts i) ∙ ap (entries_of i) cut ∙ flat_map-append (own_entry i) before (s ∷ after) ∙ ap (λ (es : List Entry). entries_of i before ++ es) (own_is s after i refl) in
      let k = reached (entries_of i before) (openings nodes net i) (entry_of s) (entries_of i after) (subst (λ (es : List Entry). IsLocalRun (openings nodes net i) es) split (local i)) in
      let fires : row k.here (event.Fire a action) ≡ Some k.did =
      ap (row k.here) (sym is) ∙ row_of (s.stamp == stamp_of k.here s.event) (row k.here s.event) k.did k.does in
      let lives = (stay before (s ∷ after) cut i k.here a k.replays).0 (live_fires k.here a action k.did fires) in
      (only_if (same_app a.app run_app) (slice_get (places nodes net) a.actor) i lives).0

  own_firings : length (firings run_app m.entries) ≡ firing_steps m.entries
  own_firings = counted_all m.entries fires_own [] m.entries refl

  -- the firings
  step_among : (s : Step) → Contains m.entries s → Contains (map node_number c.nodes) s.node
  step_among s there =
      let h = held_by s.node (entry_of s) (subst (λ (es : List Entry). Contains es (entry_of s)) (r.entries.parts s.node) (step_there m.entries s there)) in
      subst (λ (i : ℕ). Contains (map node_number c.nodes) i) h.number (contains_map node_number c.nodes h.node h.there)

  count : firing_steps m.entries ≡ firings_of c.nodes
  count =
      sym (firings_by_number (map node_number c.nodes) m.entries r.honest.ascend step_among)
      ∙ firings_by_node _ c.nodes (λ n there. ap firing_count (r.entries.parts (node_number n) ∙ journal_of n there))

  links : c.items ≡ items → c.failed ≡ false → (from to : ℕ) → IsNode nodes from → IsNode nodes to → LinkKept items from to (journals to)
  links same fine from to sends receives =
      let s = node_of from sends in
      let t = node_of to receives in
      let kept = r.honest.links fine t.0 s.0 t.1 s.1 in
      let entries = subst (λ (es : List Entry). LinkKept c.items (node_number s.0) (node_number t.0) es) (sym (journal_of t.0 t.1)) kept in
      subst (λ (i : ℕ). LinkKept items i to (journals to)) s.2 (subst (λ (i : ℕ). LinkKept items (node_number s.0) i (journals i)) t.2 (subst (λ (is : List Item). LinkKept is (node_number s.0) (node_number t.0) (journals (node_number t.0))) same entries))

pub is_spread_run : (net : Net) (nodes : ℕ) (items : List Item) (most : ℕ) (stop : RunEnd) (c : ClusterView) (m : Record) → IsWired net → Stops (opened_cluster nodes net items) most stop c → c.failed ≡ false → IsRecordFor c m → IsSpreadRun net nodes items most stop m
is_spread_run net nodes items most stop c m wired stops fine r =
    let e = ended items net nodes most stop c stops in
    let grown = e.goes.nodes in
    let fired : length (firings run_app m.entries) ≡ e.fired =
    own_firings items net nodes c grown m r ∙ count items net nodes c grown m r ∙ e.goes.count ∙ omega (arith, no_firings nodes net (range_with_len 1 nodes)) in
    let run = is_run items net nodes c grown m r in
    record {
      specs = specs items net nodes c grown m r;
      journals = journals_of c.nodes;
      recorded = r.entries;
      among = among items net nodes c grown m r;
      local = local items net nodes c grown m r;
      own = own items net nodes c grown m r;
      sent = run.sent;
      links = links items net nodes c grown m r e.goes.items fine;
      ends = subst (EndsAfter most stop) (sym fired) e.ends;
      owners = owners_hold items net nodes c grown m r;
      stay = stay items net nodes c grown m r;
      streams =
          λ begins rest cut somebody.
          each_placed (nets net somebody) (home nodes net) (openings nodes net) (journals_of c.nodes) m.entries (is_placed nodes net somebody) run (carry items net nodes c grown m r somebody) begins rest run_app cut wired;
    }

-- the one runtime could fire all that is recorded, in recorded order
pub one_runtime : (net : Net) (nodes : ℕ) (items : List Item) (most : ℕ) (stop : RunEnd) (m : Record) → IsSpreadRun net nodes items most stop m → (after : Runtime) × (solo net (firings run_app m.entries) ≡ Some after)
one_runtime net nodes items most stop m run =
    let whole = run.streams m.entries [] (sym (append-nil m.entries)) nobody in
    (whole.runtime, whole.defined)
