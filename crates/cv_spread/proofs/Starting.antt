-- What a cluster of the nodes of a run needs: rising numbers, items between its nodes, and a place among its nodes for each actor.
use Rattle.std.proofs.Common.{◌≡◌, ◌≢◌, ◌⊎◌, inl, inr, ℕ, zero, suc, ◌+◌, ◌<◌, ◌≤◌, Bool, true, false, not, ◌==◌, ◌&&◌, ◌||◌, List, [], ◌∷◌, length, map, refl, sym, ap, ap₂, ◌∙◌, subst, arith}
use Rattle.std.specs.List.{list_all, range_with_len}
use Rattle.std.proofs.Math.Nat.{mod-lt}
use Rattle.std.proofs.lemmas.Bool.Decides.{nat_tests}
use Rattle.std.proofs.lemmas.List.FromFn.{length-map-range_with_len}
use Rattle.cv_kinds.specs.Net.{Net}
use Rattle.cv_rules.specs.declared.attrs.NodeSpec.{NodeSpec}
use Rattle.cv_node.specs.Journalled.{Journalled}
use Rattle.cv_link.specs.declared.items.Item.{Item}
use Rattle.cv_link.specs.declared.items.Item.TheVariants as item
use Rattle.cv_merge.specs.Lanes.{AllAbove, Ascends}
use Rattle.cv_cluster.specs.Cluster.{ClusterView, node_number}
use Rattle.cv_cluster.specs.Opening.{AllAmong, AllAreForNodes, AllItemsFit, AllUnused, Opens, are_two, fits, is_among, is_for_node, new_node, opened_node}
use Rattle.cv_spread.specs.Clusters.{node_at, opened_cluster}
use Rattle.cv_spread.specs.Placing.{IsLink, IsNode, ItemFits, ItemsFit, node_spec, node_specs, home_node, places}
use Rattle.cv_spread.proofs.Ranges.{contains_first, contains_later, mapped_in}

-- 1. The numbers of the nodes

abbrev number : NodeSpec → ℕ
number s = s.no

numbers : (is : List ℕ) → map number (map node_spec is) ≡ is
numbers [] = refl
numbers (i ∷ is) = ap (λ (js : List ℕ). i ∷ js) (numbers is)

node_numbers : (is : List ℕ) → map node_number (map new_node (map node_spec is)) ≡ is
node_numbers [] = refl
node_numbers (i ∷ is) = ap (λ (js : List ℕ). i ∷ js) (node_numbers is)

all_above : (k from count : ℕ) → k < from → AllAbove k (range_with_len from count)
all_above k from zero low = tt
all_above k from (suc count) low = (low, all_above k (from + 1) count (omega (arith, low)))

ascends : (from count : ℕ) → Ascends (range_with_len from count)
ascends from zero = tt
ascends from (suc count) = (all_above from (from + 1) count (omega arith), ascends (from + 1) count)

pub numbers_rise : (nodes : ℕ) → Ascends (map number (node_specs nodes))
numbers_rise nodes = subst Ascends (sym (numbers (range_with_len 1 nodes))) (ascends 1 nodes)

-- 2. Their specifications

fits_node : (i : ℕ) → 1 ≤ i → i ≤ 64 → is_for_node (node_spec i) ≡ true
fits_node i low high = grind (arith, nat_tests)

fit_nodes : (from count : ℕ) → 1 ≤ from → from + count ≤ 65 → list_all is_for_node (map node_spec (range_with_len from count)) ≡ true
fit_nodes from zero low high = refl
fit_nodes from (suc count) low high =
    ap₂ ◌&&◌ (fits_node from low (omega (arith, high))) (fit_nodes (from + 1) count (omega (arith, low)) (omega (arith, high)))

pub specs_fit : (nodes : ℕ) → nodes ≤ 16 → AllAreForNodes (node_specs nodes)
specs_fit nodes few = fit_nodes 1 nodes (omega arith) (omega (arith, few))

-- 3. The items

either : (b : Bool) → (b || true) ≡ true
either true = refl
either false = refl

is_or : (a b : Bool) → b ≡ true → (a || b) ≡ true
is_or a b e = ap (λ (x : Bool). a || x) e ∙ either a

here_or : (a b : Bool) → a ≡ true → (a || b) ≡ true
here_or a b e = ap (λ (x : Bool). x || b) e

from_or_later : (from i : ℕ) → from ≤ i → ((from == i) ≡ true) ⊎ (from + 1 ≤ i)
from_or_later from i low = grind (arith, nat_tests)

among : (from count i : ℕ) → from ≤ i → i < from + count → is_among (range_with_len from count) i ≡ true
among from zero i low high = absurd (omega (arith, low, high))
among from (suc count) i low high =
    elim (from_or_later from i low) [
      | inl same ↦ here_or (from == i) (is_among (range_with_len (from + 1) count) i) same
      | inr later ↦ is_or (from == i) (is_among (range_with_len (from + 1) count) i) (among (from + 1) count i later (omega (arith, high)))
    ]

is_node : (nodes i : ℕ) → IsNode nodes i → is_among (map number (node_specs nodes)) i ≡ true
is_node nodes i n =
    subst (λ (is : List ℕ). is_among is i ≡ true) (sym (numbers (range_with_len 1 nodes))) (among 1 nodes i n.0 (omega (arith, n.1)))

differ : (from to : ℕ) → from ≢ to → not (from == to) ≡ true
differ from to apart = grind (arith, nat_tests, apart)

two_nodes : (nodes from to : ℕ) → IsLink nodes from to → are_two (map number (node_specs nodes)) from to ≡ true
two_nodes nodes from to l =
    ap₂ ◌&&◌ (is_node nodes from l.sender) (ap₂ ◌&&◌ (is_node nodes to l.receiver) (differ from to l.differ))

fits_one : (nodes : ℕ) (i : Item) → ItemFits nodes i → fits (map number (node_specs nodes)) i ≡ true
fits_one nodes (item.Move actor node after) f = absurd f
fits_one nodes (item.Lose from to k) f = two_nodes nodes from to f
fits_one nodes (item.Twice from to k) f = two_nodes nodes from to f
fits_one nodes (item.Cut from to k) f = two_nodes nodes from to f

pub items_fit : (nodes : ℕ) (items : List Item) → ItemsFit nodes items → AllItemsFit (node_specs nodes) items
items_fit nodes [] f = refl
items_fit nodes (i ∷ items) f =
    ap₂ ◌&&◌ (fits_one nodes i (f i (contains_first i items))) (items_fit nodes items (λ j c. f j (contains_later i items j c)))

-- 4. Opening

pub unused : (specs : List NodeSpec) → AllUnused (map new_node specs)
unused specs n c =
    let m = mapped_in new_node specs n c in
    subst (λ (k : Journalled). k ≡ new_node k.base.spec) m.2 refl

among_nodes : (nodes actor : ℕ) → 1 ≤ nodes → is_among (range_with_len 1 nodes) (home_node nodes actor) ≡ true
among_nodes nodes actor some =
    let some_nodes : 0 < nodes = omega (arith, some) in
    among 1 nodes (home_node nodes actor) (omega arith) (omega (arith, mod-lt actor some_nodes))

all_among : (nodes : ℕ) (actors : List ℕ) → 1 ≤ nodes → list_all (is_among (range_with_len 1 nodes)) (map (home_node nodes) actors) ≡ true
all_among nodes [] some = refl
all_among nodes (a ∷ actors) some = ap₂ ◌&&◌ (among_nodes nodes a some) (all_among nodes actors some)

pub places_among : (nodes : ℕ) (net : Net) → 1 ≤ nodes → AllAmong (places nodes net) (map new_node (node_specs nodes))
places_among nodes net some =
    subst (λ (is : List ℕ). list_all (is_among is) (places nodes net) ≡ true) (sym (node_numbers (range_with_len 1 nodes))) (all_among nodes (range_with_len 0 (length net.actors)) some)

pub places_length : (nodes : ℕ) (net : Net) → length (places nodes net) ≡ length net.actors
places_length nodes net = length-map-range_with_len (home_node nodes) 0 (length net.actors)

open_all : (nodes : ℕ) (net : Net) (is : List ℕ) → map (opened_node net (places nodes net)) (map new_node (map node_spec is)) ≡ map (node_at nodes net) is
open_all nodes net [] = refl
open_all nodes net (i ∷ is) = ap (λ (ns : List Journalled). node_at nodes net i ∷ ns) (open_all nodes net is)

-- the cluster of new nodes, opened with the actors in their places
pub opened_all : (nodes : ℕ) (net : Net) (items : List Item) (new : ClusterView) → Opens (record { items = items; nodes = map new_node (node_specs nodes); failed = false }) net (places nodes net) new → new ≡ opened_cluster nodes net items
opened_all nodes net items new o =
    let ns = o.nodes ∙ open_all nodes net (range_with_len 1 nodes) in
    λ z. record { items = o.items z; nodes = ns z; failed = o.failed z }
