use Rattle.cv_mesh.specs.Joining.{AreNew}
use Rattle.cv_mesh.proofs.joining.join_all.Given as goal

-- those passed are joined
abbrev pub invariant-loop-node : goal.invariant-loop-node
invariant-loop-node l = AreNew l.fn.items l.yielded l.stations.items
