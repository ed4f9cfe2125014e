use Rattle.std.proofs.Common.{◌≡◌, map, take}
use Rattle.cv_graph.specs.Links.{way_of}
use Rattle.cv_graph.proofs.linking.ways_of.Given as goal

abbrev pub invariant-loop-wire : goal.invariant-loop-wire
invariant-loop-wire l = l.ways.items ≡ map (way_of l.actors l.feeders) (take l.wire-index l.wires)
