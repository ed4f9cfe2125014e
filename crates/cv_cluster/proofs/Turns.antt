-- A run comes to an end: each tick takes room for an entry.
use Rattle.std.proofs.Common.{◌≡◌, ℕ, Result, Ok, Err, OnErr, ◌+◌, ◌-◌, ◌*◌, ◌<◌, ◌≤◌, Bool, true, false, List, [], ◌∷◌, length, if◌then◌else◌, sym, ◌∙◌, ap, subst, arith, length-append}
use Rattle.cv_protocol.specs.declared.event.Event.TheVariants as event
use Rattle.cv_node.specs.Counts.{journal_length}
use Rattle.cv_node.specs.Journalled.{Journalled, entry_of_row}
use Rattle.cv_mesh.proofs.Listing.{contains_at, each_back, sums_below}
use Rattle.cv_cluster.specs.Cluster.{ClusterView, GoesOn, Grows, IsHonest}
use Rattle.cv_cluster.specs.Ticking.{Ticks, TicksTo}
use Rattle.cv_cluster.specs.Turns.{room_of, rooms_of}
use Rattle.cv_cluster.proofs.Advancing.{goes_on_then}
use Rattle.cv_cluster.proofs.Lists.{sum_suc}

grows_room : (n m : Journalled) → Grows n m → room_of m ≤ room_of n
grows_room n m grows =
    let longer = ap length grows.appends ∙ length-append n.entries grows.more in omega (arith, longer)

-- where it goes on no journal gets more room
pub no_more_room : (old new : ClusterView) (fired : ℕ) → GoesOn old new fired → rooms_of new.nodes ≤ rooms_of old.nodes
no_more_room old new fired goes =
    sums_below room_of room_of new.nodes old.nodes (sym goes.nodes.long) (λ i m at. let n = each_back Grows old.nodes new.nodes goes.nodes i m at in (n.0, n.1, grows_room n.0 m n.2))

ticks_room : (t : ℕ) (n m : Journalled) → TicksTo t n m → length m.entries ≤ journal_length → room_of m + 1 ≤ room_of n
ticks_room t n m ticks few =
    let longer = ap length ticks.appends ∙ length-append n.entries (entry_of_row n.state (event.Tick t) ∷ []) in omega (arith, longer, few)

pub less_room : (old new : ClusterView) → Ticks old new → IsHonest new → rooms_of new.nodes < rooms_of old.nodes
less_room old new ticks honest =
    let all = sums_below (λ (n : Journalled). room_of n + 1) room_of new.nodes old.nodes (sym ticks.nodes.long) (λ i m at. let n = each_back (TicksTo ticks.moment) old.nodes new.nodes ticks.nodes i m at in (n.0, n.1, ticks_room ticks.moment n.0 m n.2 (honest.few m (contains_at new.nodes i m at)))) in
    let some = ticks.wakes.there.1 in
    let long = ticks.nodes.long in
    omega (arith, all, some, long, sum_suc room_of new.nodes)

-- what is left of a run: its firings and the room of the journals, and after a settle one less
abbrev pub left_of : ℕ → List Journalled → Bool → ℕ
left_of left nodes settled = (left + rooms_of nodes) * 2 + (if settled then 0 else 1)

pub smaller_fired : (old new : ClusterView) (left count fired : ℕ) (settled : Bool) → count ≤ left → 0 < count → GoesOn old new fired → left_of (left - count) new.nodes false < left_of left old.nodes settled
smaller_fired old new left count fired settled few some goes =
    let room = no_more_room old new fired goes in omega (arith, few, some, room)

pub smaller_settled : (old new : ClusterView) (left fired : ℕ) (settled : Bool) → settled ≡ false → GoesOn old new fired → left_of left new.nodes true < left_of left old.nodes settled
smaller_settled old new left fired true is goes = absurd (cc)
smaller_settled old new left fired false is goes =
    let room = no_more_room old new fired goes in omega (arith, room)

pub smaller_ticked : (old new : ClusterView) (left : ℕ) (settled : Bool) → rooms_of new.nodes < rooms_of old.nodes → left_of left new.nodes false < left_of left old.nodes settled
smaller_ticked old new left settled less = omega (arith, less)

-- a run goes on by a turn
pub run_on : (a b c : ClusterView) (most left fired count : ℕ) → left ≤ most → fired ≤ left → count ≡ fired → GoesOn a b (most - left) → GoesOn b c fired → GoesOn a c (most - (left - count))
run_on a b c most left fired count within few same before goes =
    let sum : (most - left) + fired ≡ most - (left - count) = omega (arith, within, few, same) in
    subst (GoesOn a c) sum (goes_on_then a b c (most - left) fired before goes)

-- by a turn without firings
pub run_still : (a b c : ClusterView) (most left fired : ℕ) → 0 ≡ fired → GoesOn a b (most - left) → GoesOn b c fired → GoesOn a c (most - left)
run_still a b c most left fired none before goes =
    let sum : (most - left) + fired ≡ most - left = omega (arith, none) in
    subst (GoesOn a c) sum (goes_on_then a b c (most - left) fired before goes)

-- a round without firings, and what follows it
pub calm_turn : (a b c : ClusterView) (fired : ℕ) → fired ≡ 0 → GoesOn a b fired → GoesOn b c 0 → GoesOn a c 0
calm_turn a b c fired none first second =
    let sum : fired + 0 ≡ 0 = omega (arith, none) in
    subst (GoesOn a c) sum (goes_on_then a b c fired 0 first second)

-- whatever the refusal
pub on_any_err : {T E P : Type 0} (r : Result T E) → P → OnErr r P
on_any_err (Ok x) p = tt
on_any_err (Err e) p = p
