-- The nodes of a cluster are runs of several nodes, so none of them refuses an event for a number.
use Rattle.std.proofs.Common.{◌≡◌, ◌⊎◌, inl, inr, ℕ, zero, suc, ◌+◌, ◌*◌, ◌^◌, ◌<◌, ◌≤◌, Bool, true, false, ◌==◌, nat_le, nat_lt, ◌&&◌, if◌then◌else◌, List, [], ◌∷◌, ◌++◌, map, length, slice_get, Some, None, Contains, refl, sym, ap, ◌∙◌, subst, arith}
use Rattle.std.specs.Prelude.{IsSome}
use Rattle.std.proofs.lemmas.Bool.{and_parts, eq-eqb}
use Rattle.std.proofs.lemmas.Bool.Decides.{nat_tests}
use Rattle.std.proofs.lemmas.List.{length-map}
use Rattle.std.proofs.lemmas.List.Elements.{Contains-append_right}
use Rattle.cv_protocol.specs.declared.event.Entry.{Entry}
use Rattle.cv_protocol.specs.declared.event.Event.{Event}
use Rattle.cv_protocol.specs.declared.event.Event.TheVariants as event
use Rattle.cv_protocol.specs.declared.frame.Frame.{Frame}
use Rattle.cv_protocol.specs.Journals.{Sends, replay}
use Rattle.cv_protocol.specs.declared.refusal.StepRefusal.TheVariants as refusal
use Rattle.cv_protocol.specs.NodeRow.{cause_of, last_cause, spent_unless}
use Rattle.cv_protocol.specs.NodeState.{NodeState, opening}
use Rattle.cv_protocol.specs.Poll.{limit}
use Rattle.cv_protocol.specs.Rows.{tick}
use Rattle.cv_node.specs.Counts.{journal_length}
use Rattle.cv_node.specs.Journalled.{Journalled}
use Rattle.cv_link.specs.declared.items.Item.{Item}
use Rattle.cv_merge.specs.Lanes.{AllAbove, Ascends, Lane, entries_at, total}
use Rattle.cv_merge.specs.Laws.{IsSentIn}
use Rattle.cv_bounds.specs.Few.{is_still}
use Rattle.cv_bounds.specs.Moments.{AreRuns, EndsTimely, IsStart, moment_of}
use Rattle.cv_bounds.proofs.Pausing.{empty_is_start}
use Rattle.cv_bounds.proofs.Runs.{runs_are_timely, runs_spend_nothing}
use Rattle.cv_station.specs.declared.station.Station.{Station}
use Rattle.cv_mesh.specs.Going.{is_of_run}
use Rattle.cv_mesh.proofs.Listing.{contains_at, contains_map, map_again, mapped_at, place_of}
use Rattle.cv_cluster.specs.Cluster.{AreAtOneMoment, IsHonest, NothingIsSpent, WasSent, node_number}
use Rattle.cv_cluster.specs.Holding.{Holds, IsNear, node_of, spec_of}
use Rattle.cv_cluster.specs.Opening.{is_for_node}
use Rattle.cv_cluster.specs.Ticking.{AllTake, DueBelow}
use Rattle.cv_cluster.proofs.Honest.{kept_honest}
use Rattle.cv_cluster.proofs.Lists.{all_at}

-- a node that is none of the cluster
pub nobody : NodeState
nobody = opening (record { no = 0; room = 0; window = 0; attrs = [] })

pub nobody_starts : IsStart nobody
unfolding nobody
nobody_starts = empty_is_start (record { no = 0; room = 0; window = 0; attrs = [] })

-- 1. The journals and the starts, by the numbers of the nodes

abbrev lane_of : Journalled → Lane
lane_of n = record { node = node_number n; entries = n.entries }

abbrev journals_of : List Journalled → ℕ → List Entry
journals_of nodes i = entries_at (map lane_of nodes) i

-- where the node of that number started; of any other number some start
abbrev starts_of : NodeState → List Journalled → ℕ → NodeState
starts_of other [] i = other
starts_of other (n ∷ nodes) i = if node_number n == i then n.base else starts_of other nodes i

-- the node of a number
record Holder (nodes : List Journalled) (i : ℕ) (start : NodeState) (entries : List Entry) : Type 0 where
  node : Journalled
  there : Contains nodes node
  start_is : start ≡ node.base
  entries_are : entries ≡ node.entries

record Absent (other : NodeState) (start : NodeState) (entries : List Entry) : Type 0 where
  start_is : start ≡ other
  entries_are : entries ≡ []

abbrev Held : NodeState → List Journalled → ℕ → NodeState → List Entry → Type 0
Held other nodes i start entries = Holder nodes i start entries ⊎ Absent other start entries

first_held : (own : Bool) (other : NodeState) (n : Journalled) (nodes : List Journalled) (i : ℕ) → Held other nodes i (starts_of other nodes i) (journals_of nodes i) → Held other (n ∷ nodes) i (if own then n.base else starts_of other nodes i) (if own then n.entries else journals_of nodes i)
first_held true other n nodes i later =
    inl (record { node = n; there = (0, omega arith, refl); start_is = refl; entries_are = refl })
first_held false other n nodes i (inl h) =
    inl (record { node = h.node; there = (suc h.there.0, (let low = h.there.1 in omega (arith, low)), h.there.2); start_is = h.start_is; entries_are = h.entries_are })
first_held false other n nodes i (inr h) = inr h

held : (other : NodeState) (nodes : List Journalled) (i : ℕ) → Held other nodes i (starts_of other nodes i) (journals_of nodes i)
held other [] i = inr (record { start_is = refl; entries_are = refl })
held other (n ∷ nodes) i = first_held (node_number n == i) other n nodes i (held other nodes i)

-- a node's own number
record Own (other : NodeState) (nodes : List Journalled) (n : Journalled) : Type 0 where
  start_is : starts_of other nodes (node_number n) ≡ n.base
  entries_are : journals_of nodes (node_number n) ≡ n.entries

above : (k : ℕ) (nodes : List Journalled) (n : Journalled) → AllAbove k (map node_number nodes) → Contains nodes n → k < node_number n
above k [] n all c = absurd (omega (arith, c.1))
above k (m ∷ nodes) n all (zero, h, e) = subst (λ (x : Journalled). k < node_number x) e all.0
above k (m ∷ nodes) n all (suc j, h, e) = above k nodes n all.1 (j, omega (arith, h), e)

not_equal : (k i : ℕ) → k < i → (k == i) ≡ false
not_equal k i low = grind (arith, nat_tests)

own_first : (other : NodeState) (nodes : List Journalled) (n : Journalled) → Own other (n ∷ nodes) n
own_first other nodes n =
    let same = eq-eqb (node_number n) (node_number n) refl in
    record {
      start_is = ap (λ (b : Bool). if b then n.base else starts_of other nodes (node_number n)) same;
      entries_are = ap (λ (b : Bool). if b then n.entries else journals_of nodes (node_number n)) same;
    }

own_of : (other : NodeState) (nodes : List Journalled) (n : Journalled) → Ascends (map node_number nodes) → Contains nodes n → Own other nodes n
own_of other [] n rises c = absurd (omega (arith, c.1))
own_of other (m ∷ nodes) n rises (zero, h, e) = subst (Own other (m ∷ nodes)) e (own_first other nodes m)
own_of other (m ∷ nodes) n rises (suc j, h, e) =
    let there : Contains nodes n = (j, omega (arith, h), e) in
    let differ = not_equal (node_number m) (node_number n) (above (node_number m) nodes n rises.0 there) in
    let later = own_of other nodes n rises.1 there in
    record {
      start_is = ap (λ (b : Bool). if b then m.base else starts_of other nodes (node_number n)) differ ∙ later.start_is;
      entries_are = ap (λ (b : Bool). if b then m.entries else journals_of nodes (node_number n)) differ ∙ later.entries_are;
    }

-- 2. How many entries there are

few_numbers : (ns : List ℕ) (low : ℕ) → AllAbove low ns → Ascends ns → ((n : ℕ) → Contains ns n → n ≤ 64) → low ≤ 64 → length ns + low ≤ 64
few_numbers [] low above rises few within = omega (arith, within)
few_numbers (n ∷ ns) low above rises few within =
    let rest = few_numbers ns n rises.0 rises.1 (λ m c. few m (suc c.0, (let h = c.1 in omega (arith, h)), c.2)) (few n (0, omega arith, refl)) in
    let first = above.0 in
    omega (arith, rest, first)

all_above : (ns : List ℕ) → ((n : ℕ) → Contains ns n → 1 ≤ n) → AllAbove 0 ns
all_above [] positive = tt
all_above (n ∷ ns) positive =
    ((let p = positive n (0, omega arith, refl) in omega (arith, p)), all_above ns (λ m c. positive m (suc c.0, (let h = c.1 in omega (arith, h)), c.2)))

few_entries : (nodes : List Journalled) → ((n : Journalled) → Contains nodes n → length n.entries ≤ journal_length) → total (map lane_of nodes) ≤ journal_length * length nodes
few_entries [] few = omega arith
few_entries (n ∷ nodes) few =
    let first = few n (0, omega arith, refl) in
    let rest = few_entries nodes (λ m c. few m (suc c.0, (let h = c.1 in omega (arith, h)), c.2)) in
    omega (arith, first, rest)

-- 3. The runs of the nodes

still_event : (e : Event) → is_of_run e ≡ true → is_still e ≡ true
still_event (event.Tick now) own = refl
still_event (event.Peek a port) own = refl
still_event (event.Fire a action) own = refl
still_event (event.Pass conn) own = refl
still_event (event.Send conn) own = refl
still_event (event.Rewind conn) own = refl
still_event (event.Lose f) own = refl
still_event (event.Deliver f) own = refl
still_event (event.Meet node attrs) own = refl
still_event (event.Deploy name net) own = absurd (cc)
still_event (event.Freeze a to) own = absurd (cc)
still_event (event.Resend a) own = absurd (cc)
still_event (event.Withdraw a) own = absurd (cc)
still_event (event.Hint a attempt node) own = absurd (cc)
still_event (event.Destroy app) own = absurd (cc)

-- a Tick to a moment that is not before the node's has no other cause than its stamp
spent_or_none : (b : Bool) → (spent_unless b ≡ Some refusal.StampSpent → ⊥) → spent_unless b ≡ None
spent_or_none true un = refl
spent_or_none false un = absurd (un refl)

tick_taken : (s : NodeState) (t : ℕ) → s.now ≤ t → t < limit → (cause_of s (event.Tick t) ≡ Some refusal.StampSpent → ⊥) → cause_of s (event.Tick t) ≡ None
tick_taken s t low high un =
    let may : (nat_le s.now t && nat_lt t limit) ≡ true = grind (arith, nat_tests, low, high) in
    let same : cause_of s (event.Tick t) ≡ last_cause (s.stamp + 1) (event.Tick t) (tick s t true) = ap (λ (b : Bool). last_cause (s.stamp + 1) (event.Tick t) (tick s t b)) may in
    same ∙ spent_or_none _ (λ is. un (same ∙ is))

module _ (items : List Item) (failed : Bool) (ss : List Station) (holds : Holds items failed ss) (other : NodeState) (other_start : IsStart other) where
  abbrev nodes : List Journalled
  nodes = map node_of ss

  honest : IsHonest (record { items = items; nodes = nodes; failed = failed })
  honest = kept_honest items failed ss holds.kept

  abbrev starts : ℕ → NodeState
  starts = starts_of other nodes

  abbrev lanes : List Lane
  lanes = map lane_of nodes

  started : (n : Journalled) → Contains nodes n → IsStart n.base
  started n c =
      let p = place_of nodes n c in
      let s = mapped_at node_of ss p.0 n p.1 in
      subst (λ (m : Journalled). IsStart m.base) s.2 (holds.started p.0 s.0 s.1)

  sent_in : (f : Frame) → WasSent nodes f → IsSentIn starts (entries_at lanes) f
  sent_in f by =
      let own = own_of other nodes by.sender honest.ascend by.there in
      let from : node_number by.sender ≡ f.from = sym by.sent.from in
      record {
        before = by.sent.before;
        entry = by.sent.entry;
        after = by.sent.after;
        stands = subst (λ (i : ℕ). entries_at lanes i ≡ by.sent.before ++ by.sent.entry ∷ by.sent.after) from (own.entries_are ∙ by.sent.stands);
        stamped = by.sent.stamped;
        sends = subst (λ (i : ℕ). Sends (starts i) by.sent.before by.sent.entry f) from (subst (λ (s : NodeState). Sends s by.sent.before by.sent.entry f) (sym own.start_is) by.sent.sends);
      }

  start_at : (i : ℕ) → Held other nodes i (starts i) (entries_at lanes i) → IsStart (starts i)
  start_at i (inl h) = subst IsStart (sym h.start_is) (started h.node h.there)
  start_at i (inr h) = subst IsStart (sym h.start_is) other_start

  local_at : (i : ℕ) (start : NodeState) (entries : List Entry) → Held other nodes i start entries → IsSome (replay start entries)
  local_at i start entries (inl h) =
      let run : replay start entries ≡ Some h.node.state = ap (λ (s : NodeState). replay s entries) h.start_is ∙ ap (replay h.node.base) h.entries_are ∙ (honest.local h.node h.there).replays in
      subst IsSome (sym run) refl
  local_at i start entries (inr h) = subst (λ (es : List Entry). IsSome (replay start es)) (sym h.entries_are) refl

  in_node : (i : ℕ) (start : NodeState) (entries : List Entry) (e : Entry) → Held other nodes i start entries → Contains entries e → (n : Journalled) × Contains nodes n × Contains n.entries e
  in_node i start entries e (inl h) c =
      (h.node, h.there, subst (λ (es : List Entry). Contains es e) h.entries_are c)
  in_node i start entries e (inr h) c =
      let none : Contains [] e = subst (λ (es : List Entry). Contains es e) h.entries_are c in
      absurd (omega (arith, none.1))

  runs : AreRuns starts lanes
  runs = record {
    ascend = subst Ascends (sym (map_again (λ (l : Lane). l.node) lane_of nodes)) honest.ascend;
    starts = λ i. start_at i (held other nodes i);
    local = λ i. local_at i (starts i) (entries_at lanes i) (held other nodes i);
    sent = λ i before after e f stands got.
        let c : Contains (entries_at lanes i) e = subst (λ (es : List Entry). Contains es e) (sym stands) (Contains-append_right before (e ∷ after) e (0, omega arith, refl)) in
        let n = in_node i (starts i) (entries_at lanes i) e (held other nodes i) c in
        sent_in f (honest.sent n.0 e f n.1 n.2 got);
    still = λ i e c.
        let n = in_node i (starts i) (entries_at lanes i) e (held other nodes i) c in
        still_event e.event (honest.own n.0 e n.1 n.2);
  }

  own_run : (n : Journalled) → Contains nodes n → replay (starts (node_number n)) (entries_at lanes (node_number n)) ≡ Some n.state
  own_run n c =
      let own = own_of other nodes n honest.ascend c in
      ap (λ (s : NodeState). replay s (entries_at lanes (node_number n))) own.start_is ∙ ap (replay n.base) own.entries_are ∙ (honest.local n c).replays

  -- a node is at the moment of its journal, and its actors wait less than a duration
  ends : (n : Journalled) → Contains nodes n → EndsTimely n.base n.entries n.state
  ends n c =
      let own = own_of other nodes n honest.ascend c in
      subst (λ (s : NodeState). EndsTimely s n.entries n.state) own.start_is
      (subst (λ (es : List Entry). EndsTimely (starts (node_number n)) es n.state) own.entries_are (runs_are_timely starts lanes runs (node_number n) n.state (own_run n c)))

  moment_is : (n : Journalled) → Contains nodes n → n.state.now ≡ moment_of 0 n.entries
  moment_is n c = (ends n c).moment ∙ ap (λ (t : ℕ). moment_of t n.entries) (started n c).early

  -- 4. Few nodes, few entries

  fit_at : (n : Journalled) → Contains nodes n → (1 ≤ node_number n) × (node_number n ≤ 64)
  fit_at n c =
      let p = place_of nodes n c in
      let s = mapped_at node_of ss p.0 n p.1 in
      let fit = all_at is_for_node (map spec_of ss) holds.fit (spec_of s.0) (contains_map spec_of ss s.0 (contains_at ss p.0 s.0 s.1)) in
      let low = and_parts (nat_le 1 (spec_of s.0).no) _ fit in
      let high = and_parts (nat_le (spec_of s.0).no 64) _ low.1 in
      let first = low.0 in
      let second = high.0 in
      subst (λ (m : Journalled). (1 ≤ node_number m) × (node_number m ≤ 64)) s.2 (grind (arith, nat_tests, first), grind (arith, nat_tests, second))

  number_fit : (k : ℕ) → Contains (map node_number nodes) k → (1 ≤ k) × (k ≤ 64)
  number_fit k c =
      let p = place_of (map node_number nodes) k c in
      let n = mapped_at node_number nodes p.0 k p.1 in
      subst (λ (m : ℕ). (1 ≤ m) × (m ≤ 64)) n.2 (fit_at n.0 (contains_at nodes p.0 n.0 n.1))

  few_nodes : length nodes ≤ 64
  few_nodes =
      let few = few_numbers (map node_number nodes) 0 (all_above (map node_number nodes) (λ k c. (number_fit k c).0)) honest.ascend (λ k c. (number_fit k c).1) (omega arith) in
      let long = length-map nodes node_number in
      omega (arith, few, long)

  few_in_all : total lanes < 2 ^ 61
  few_in_all =
      let few = few_entries nodes honest.few in
      let most = few_nodes in
      omega (arith, few, most)

  -- no moment is above as many durations as a journal may have entries
  early_at : (i : ℕ) (s : Station) → slice_get ss i ≡ Some s → moment_of 0 s.node.entries ≤ 2 ^ 61
  early_at i s at = by_first ss refl i s at
    where
      by_first : (xs : List Station) → ss ≡ xs → (i : ℕ) (s : Station) → slice_get xs i ≡ Some s → moment_of 0 s.node.entries ≤ 2 ^ 61
      by_first [] is i s at = absurd (cc)
      by_first (x ∷ xs) is i s at =
          let first : slice_get ss 0 ≡ Some x = ap (λ (zs : List Station). slice_get zs 0) is in
          let low = holds.early i s x first (ap (λ (zs : List Station). slice_get zs i) is ∙ at) in
          let few = holds.kept.few 0 x first in
          omega (arith, low, few)

  pub unspent : NothingIsSpent nodes
  unspent n e c may =
      let p = place_of nodes n c in
      let s = mapped_at node_of ss p.0 n p.1 in
      let low = early_at p.0 s.0 s.1 in
      let same = ap (λ (m : Journalled). moment_of 0 m.entries) s.2 in
      let moment = moment_is n c in
      runs_spend_nothing starts lanes runs few_in_all (node_number n) n.state (own_run n c) (omega (arith, moment, same, low)) e (record { still = still_event e may.own; sent = λ f got. sent_in f (may.sent f got) })

  -- the moment that an action waits for is near
  pub due_near : (moment : ℕ) → DueBelow ss (length ss) (Some moment) → IsNear ss moment
  due_near moment due first at_first =
      let found = due.wakes moment refl in
      let w = found.1 in
      let c = contains_map node_of ss w.station (contains_at ss found.0 w.station w.there) in
      let brief = (ends w.station.node c).brief w.actor w.wakes.live w.wakes.there in
      let ahead = brief.due in
      let moment_at = moment_is w.station.node c in
      let early = holds.early found.0 w.station first at_first w.there in
      let is = w.wakes.due in
      omega (arith, ahead, moment_at, early, is)

  -- the Tick to it is a row of each node: all are at one moment, which is before it
  pub all_take : (moment : ℕ) → DueBelow ss (length ss) (Some moment) → AllTake moment ss
  all_take moment due i s at =
      let found = due.wakes moment refl in
      let w = found.1 in
      let c = contains_map node_of ss s (contains_at ss i s at) in
      let there = contains_map node_of ss w.station (contains_at ss found.0 w.station w.there) in
      let ahead = ((ends w.station.node there).brief w.actor w.wakes.live w.wakes.there).due in
      let is = w.wakes.due in
      let later = w.wakes.to_come in
      let own = moment_is s.node c in
      let other = moment_is w.station.node there in
      let same = holds.together i found.0 s w.station at w.there in
      let low = early_at found.0 w.station w.there in
      tick_taken s.node.state moment (omega (arith, own, other, same, later)) (omega (arith, ahead, is, other, low)) (unspent s.node (event.Tick moment) c (record { own = refl; sent = λ f got. absurd (cc) }))

  pub one_moment : AreAtOneMoment nodes
  one_moment n m there here =
      let p = place_of nodes n there in
      let q = place_of nodes m here in
      let s = mapped_at node_of ss p.0 n p.1 in
      let u = mapped_at node_of ss q.0 m q.1 in
      let first = moment_is n there ∙ ap (λ (x : Journalled). moment_of 0 x.entries) (sym s.2) in
      let second = moment_is m here ∙ ap (λ (x : Journalled). moment_of 0 x.entries) (sym u.2) in
      first ∙ holds.together p.0 q.0 s.0 u.0 s.1 u.1 ∙ sym second
