use Rattle.std.proofs.Common.{◌≡◌, ℕ, false, List, length, map, sym, ap, ◌∙◌, subst, arith}
use Rattle.std.specs.List.{range_with_len}
use Rattle.cv_kinds.specs.declared.network.ActorSpec.{ActorSpec}
use Rattle.cv_kinds.specs.Net.{Net}
use Rattle.cv_rules.specs.declared.attrs.NodeSpec.{NodeSpec}
use Rattle.cv_link.specs.declared.items.Item.{Item}
use Rattle.cv_merge.specs.Lanes.{Ascends}
use Rattle.cv_cluster.specs.Cluster.{ClusterView}
use Rattle.cv_cluster.specs.Opening.{AllAmong, AllAreForNodes, AllItemsFit, AllUnused, Opens, new_node}
use Rattle.cv_spread.specs.Placing.{node_specs, home_node, places}
use Rattle.cv_spread.proofs.Starting.{items_fit, numbers_rise, opened_all, places_among, places_length, specs_fit, unused}
use Rattle.cv_spread.proofs.spread.open_cluster.Goals as goal

pub new-requires-clause-rising : goal.new-requires-clause-rising
new-requires-clause-rising c =
    subst (λ (specs : List NodeSpec). Ascends (map (λ (s : NodeSpec). s.no) specs)) (sym c.in_ok-specs.ensures) (numbers_rise c.args.nodes)

pub new-requires-clause-nodes : goal.new-requires-clause-nodes
new-requires-clause-nodes c =
    subst AllAreForNodes (sym c.in_ok-specs.ensures) (specs_fit c.args.nodes c.requires.nodes.1)

pub new-requires-clause-items : goal.new-requires-clause-items
new-requires-clause-items c =
    subst (λ (specs : List NodeSpec). AllItemsFit specs c.args.items.items) (sym c.in_ok-specs.ensures) (items_fit c.args.nodes c.args.items.items c.requires.items)

-- the cluster of new nodes
abbrev unopened : List Item → List NodeSpec → ClusterView
unopened items specs = record { items = items; nodes = map new_node specs; failed = false }

pub open-requires-clause-unused : goal.open-requires-clause-unused
open-requires-clause-unused c =
    subst (λ (old : ClusterView). AllUnused old.nodes) (sym c.in_ok-cluster.ensures) (unused c.in_ok-specs.specs.items)

-- the places are those of the network's actors
placed : (nodes : ℕ) (net : Net) (actors : List ActorSpec) (made at : List ℕ) → actors ≡ net.actors → made ≡ map (home_node nodes) (range_with_len 0 (length actors)) → at ≡ made → at ≡ places nodes net
placed nodes net actors made at all is same =
    same ∙ is ∙ ap (λ (xs : List ActorSpec). map (home_node nodes) (range_with_len 0 (length xs))) all

pub open-requires-clause-places : goal.open-requires-clause-places
open-requires-clause-places c =
    let at = placed c.args.nodes c.args.net c.actors.result.now c.in_ok-at.at.items c.as_slice.result.now c.actors.ensures.value c.in_ok-at.ensures c.as_slice.ensures.value in
    ap length at ∙ places_length c.args.nodes c.args.net

pub open-requires-clause-among : goal.open-requires-clause-among
open-requires-clause-among c =
    let at = placed c.args.nodes c.args.net c.actors.result.now c.in_ok-at.at.items c.as_slice.result.now c.actors.ensures.value c.in_ok-at.ensures c.as_slice.ensures.value in
    let old = c.in_ok-cluster.ensures ∙ ap (unopened c.args.items.items) c.in_ok-specs.ensures in
    subst (λ (was : ClusterView). AllAmong c.as_slice.result.now was.nodes) (sym old) (subst (λ (ns : List ℕ). AllAmong ns (map new_node (node_specs c.args.nodes))) (sym at) (places_among c.args.nodes c.args.net (omega (arith, c.requires.nodes))))

pub returns : goal.returns
returns c =
    let at = placed c.args.nodes c.args.net c.actors.result.now c.in_ok-at.at.items c.as_slice.result.now c.actors.ensures.value c.in_ok-at.ensures c.as_slice.ensures.value in
    let old = c.in_ok-cluster.ensures ∙ ap (unopened c.args.items.items) c.in_ok-specs.ensures in
    let opens = subst (λ (ns : List ℕ). Opens c.in_ok-cluster.cluster c.args.net ns c.open.new.self) at c.in_ok-open.ensures.ok in
    opened_all c.args.nodes c.args.net c.args.items.items c.open.new.self (subst (λ (was : ClusterView). Opens was c.args.net (places c.args.nodes c.args.net) c.open.new.self) old opens)
