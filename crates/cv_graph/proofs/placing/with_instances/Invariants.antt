use Rattle.std.proofs.Common.{◌++◌, map, take}
use Rattle.cv_graph.specs.Ports.{actor_places, instance_place}
use Rattle.cv_graph.specs.Tables.{AreTabled}
use Rattle.cv_graph.proofs.placing.with_instances.Given as goal

abbrev pub invariant-loop-instance : goal.invariant-loop-instance
invariant-loop-instance l = AreTabled (actor_places l.parts ++ map instance_place (take l.instance-index l.instance-items)) l.table
