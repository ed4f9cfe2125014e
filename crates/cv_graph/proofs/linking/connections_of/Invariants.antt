use Rattle.std.proofs.Common.{◌≡◌, ◌++◌, map, drop}
use Rattle.cv_graph.specs.Checks.{fed_checks}
use Rattle.cv_graph.specs.Links.{supplied, links_from}
use Rattle.cv_graph.specs.Ports.{actor_place, actor_places}
use Rattle.cv_graph.proofs.Judging.{Left}
use Rattle.cv_graph.proofs.linking.connections_of.Given as goal

-- what is left decides
abbrev pub invariant-loop-to : goal.invariant-loop-to
invariant-loop-to l = record {
  links : l.connections.items ++ links_from (supplied l.feeders l.ways) l.to (map actor_place (drop l.to l.parts.actors)) ≡ links_from (supplied l.feeders l.ways) 0 (actor_places l.parts);
  left : Left l.parts (fed_checks l.parts.actors) (fed_checks (drop l.to l.parts.actors));
}
