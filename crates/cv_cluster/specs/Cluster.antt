-- A cluster as its callers see it, how it goes on, and what always holds of it.
use Rattle.std.specs.Prelude.{◌≡◌, ℕ, ◌+◌, ◌<◌, ◌≤◌, ◌==◌, if◌then◌else◌, Bool, true, false, List, [], ◌∷◌, ◌++◌, map, length, Some, Contains, refl}
use Rattle.std.specs.List.{sum_by}
use Rattle.std.specs.Coded.{Coded, code_by, coded×, coded_list, coded_bool}
use Rattle.cv_protocol.specs.declared.event.Entry.{Entry}
use Rattle.cv_protocol.specs.declared.event.Event.{Event}
use Rattle.cv_protocol.specs.declared.frame.Frame.{Frame}
use Rattle.cv_protocol.specs.declared.refusal.StepRefusal.TheVariants as refusal
use Rattle.cv_protocol.specs.Journals.{got_frame}
use Rattle.cv_protocol.specs.NodeRow.{cause_of}
use Rattle.cv_node.specs.Counts.{firing_count, journal_length}
use Rattle.cv_node.specs.Journalled.{Journalled, journalled_code, IsReplay}
use Rattle.cv_link.specs.declared.items.Item.{Item}
use Rattle.cv_link.specs.contracts.items.Item as item
use Rattle.cv_merge.specs.Lanes.{Ascends}
use Rattle.cv_alone.specs.declared.alone.RunEnd.{RunEnd}
use Rattle.cv_alone.specs.declared.alone.RunEnd.TheVariants.{Spent, Quiescent}
use Rattle.cv_mesh.specs.Going.{is_of_run}
use Rattle.cv_mesh.specs.Keeping.{StandsSent}
use Rattle.cv_mesh.specs.Links.{LinkKept}
use Rattle.cv_mesh.specs.Moving.{Each}

-- the items of the words, the nodes in the order of their numbers, and whether memory was wanting in one of the rounds or settles so far
pub record ClusterView : Type 0 where
  pub items : List Item
  pub nodes : List Journalled
  pub failed : Bool

abbrev pub cluster_code : Coded ClusterView
cluster_code =
    code_by (List Item × (List Journalled × Bool)) (coded× (coded_list item.the_row.coded) (coded× (coded_list journalled_code) coded_bool)) (λ c. (c.items, (c.nodes, c.failed))) (λ p. record { items = p.0; nodes = p.1.0; failed = p.1.1 }) (λ _. refl)

abbrev pub node_number : Journalled → ℕ
node_number n = n.base.spec.no

-- how many entries the journal of that node has
abbrev pub length_of : List Journalled → ℕ → ℕ
length_of [] number = 0
length_of (n ∷ nodes) number = if node_number n == number then length n.entries else length_of nodes number

-- how many firings the journals have
abbrev pub firings_of : List Journalled → ℕ
firings_of nodes = sum_by (λ (n : Journalled). firing_count n.entries) nodes

-- 1. How it goes on

-- a node's journal has more entries, and all it had
pub record Grows (old new : Journalled) : Type 0 where
  pub based : new.base ≡ old.base
  pub more : List Entry
  pub appends : new.entries ≡ old.entries ++ more

-- with so many firings more
pub record GoesOn (old new : ClusterView) (fired : ℕ) : Type 0 where
  pub items : new.items ≡ old.items
  pub nodes : Each Grows old.nodes new.nodes
  pub count : firings_of new.nodes ≡ firings_of old.nodes + fired

-- a run is spent exactly after the firings that were allowed
abbrev pub Stops : ClusterView → ℕ → RunEnd → ClusterView → Type 0
Stops old most Spent new = GoesOn old new most
Stops old most Quiescent new = (fired : ℕ) × (fired < most) × GoesOn old new fired

-- 2. What always holds

-- an entry of one of the nodes sent that very frame
pub record WasSent (nodes : List Journalled) (f : Frame) : Type 0 where
  pub sender : Journalled
  pub there : Contains nodes sender
  pub sent : StandsSent sender f

-- the event is one of a run, and a frame that it gets was sent
pub record MayHappen (nodes : List Journalled) (e : Event) : Type 0 where
  pub own : is_of_run e ≡ true
  pub sent : (f : Frame) → got_frame e ≡ Some f → WasSent nodes f

-- no node refuses such an event for a number: no stamp, count, attempt or moment reaches its limit
abbrev pub NothingIsSpent : List Journalled → Type 0
NothingIsSpent nodes =
    (n : Journalled) (e : Event) → Contains nodes n → MayHappen nodes e → cause_of n.state e ≡ Some refusal.StampSpent → ⊥

-- all nodes are at one moment
abbrev pub AreAtOneMoment : List Journalled → Type 0
AreAtOneMoment nodes =
    (n m : Journalled) → Contains nodes n → Contains nodes m → n.state.now ≡ m.state.now

-- each journal, of at most 2^30 entries, is a local run of rows that a run has; each frame that came was sent; and unless memory was wanting, what became of the
-- frames of each link is what the items say
pub record IsHonest (c : ClusterView) : Type 0 where
  pub ascend : Ascends (map node_number c.nodes)
  pub local : (n : Journalled) → Contains c.nodes n → IsReplay n.base n.state n.entries
  pub own : (n : Journalled) (e : Entry) → Contains c.nodes n → Contains n.entries e → is_of_run e.event ≡ true
  pub sent : (n : Journalled) (e : Entry) (f : Frame) → Contains c.nodes n → Contains n.entries e → got_frame e.event ≡ Some f → WasSent c.nodes f
  pub few : (n : Journalled) → Contains c.nodes n → length n.entries ≤ journal_length
  pub links : c.failed ≡ false → (to from : Journalled) → Contains c.nodes to → Contains c.nodes from → LinkKept c.items (node_number from) (node_number to) to.entries
