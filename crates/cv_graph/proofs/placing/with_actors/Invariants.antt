use Rattle.std.proofs.Common.{map, take}
use Rattle.cv_graph.specs.Ports.{actor_place}
use Rattle.cv_graph.specs.Tables.{AreTabled}
use Rattle.cv_graph.proofs.placing.with_actors.Given as goal

abbrev pub invariant-loop-actor : goal.invariant-loop-actor
invariant-loop-actor l = AreTabled (map actor_place (take l.actor-index l.actor-items)) l.table
