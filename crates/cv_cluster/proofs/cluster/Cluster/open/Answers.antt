use Rattle.std.proofs.Common.{List, map, ap, sym, ◌∙◌, subst}
use Rattle.cv_link.specs.declared.items.Item.{Item}
use Rattle.cv_node.specs.Journalled.{Journalled}
use Rattle.cv_station.specs.declared.station.Station.{Station}
use Rattle.cv_mesh.specs.Joining.{AreNew}
use Rattle.cv_cluster.specs.Cluster.{ClusterView}
use Rattle.cv_cluster.specs.Holding.{spec_of}
use Rattle.cv_cluster.specs.Opening.{AllAmong, opened_as, opened_node}
use Rattle.cv_cluster.proofs.Nodes.{opened_holds, opened_nodes, places_fit}
use Rattle.cv_cluster.proofs.cluster.Cluster.open.Goals as goal

pub open_nodes-requires-clause-nodes : goal.open_nodes-requires-clause-nodes
open_nodes-requires-clause-nodes c =
    places_fit c.args.at.now c.self.inside.stations.items c.self.invariant.fit (subst (λ (x : ClusterView). AllAmong c.args.at.now x.nodes) (sym c.self.view_is) c.requires.among)

pub invariant_of-self : goal.invariant_of-self
invariant_of-self c =
    let i = c.self.inside in
    let us = c.in_ok-stations.stations.items in
    let nodes = c.in_ok-nodes.ensures ∙ ap (λ (zs : List Station). map (opened_as c.args.net c.args.at.now) (map spec_of zs)) c.deref.ensures.value in
    let joined = subst (λ (ns : List Journalled). AreNew c.deref-2.result.now ns us) nodes c.in_ok-stations.ensures in
    let new = subst (λ (is : List Item). AreNew is (map (opened_as c.args.net c.args.at.now) (map spec_of i.stations.items)) us) c.deref-2.ensures.value joined in
    opened_holds c.args.net c.args.at.now i.items.items i.failed i.stations.items us c.well_formed-2.ensures c.self.invariant new

pub returns-clause-ok : goal.returns-clause-ok
returns-clause-ok c =
    let i = c.self.inside in
    let nodes = c.in_ok-nodes.ensures ∙ ap (λ (zs : List Station). map (opened_as c.args.net c.args.at.now) (map spec_of zs)) c.deref.ensures.value in
    record {
      items = ap (λ (x : ClusterView). x.items) c.self.view_is;
      failed = ap (λ (x : ClusterView). x.failed) c.self.view_is;
      nodes = c.in_ok-stations.ensures.nodes ∙ nodes ∙ opened_nodes c.args.net c.args.at.now i.stations.items ∙ ap (λ (x : ClusterView). map (opened_node c.args.net c.args.at.now) x.nodes) c.self.view_is;
    }
