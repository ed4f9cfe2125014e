use Rattle.std.proofs.Common.{◌≡◌, ◌++◌, drop, Some, slice_get}
use Rattle.cv_expand.specs.declared.flat.Parts.{Parts}
use Rattle.cv_graph.specs.Checks.{inport_checks}
use Rattle.cv_graph.specs.Links.{supplied, AreSupplied, links_at}
use Rattle.cv_graph.specs.Ports.{actor_place}
use Rattle.cv_graph.proofs.Judging.{Left}
use Rattle.cv_graph.proofs.linking.connect_actor.Given as goal

-- what is left decides
abbrev pub invariant-loop-number : goal.invariant-loop-number
invariant-loop-number l = record {
  links : l.connections.items ++ links_at (supplied l.feeders l.ways) l.to l.number (drop l.number (actor_place l.actor).inports) ≡ l.initial.connections.items ++ links_at (supplied l.feeders l.ways) l.to 0 (actor_place l.actor).inports;
  left : (parts : Parts) → AreSupplied parts (supplied l.feeders l.ways) → slice_get parts.actors l.to ≡ Some l.actor
      → Left parts (inport_checks l.actor (actor_place l.actor).inports) (inport_checks l.actor (drop l.number (actor_place l.actor).inports));
}
