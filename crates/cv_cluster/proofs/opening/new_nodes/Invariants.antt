use Rattle.std.proofs.Common.{◌≡◌, map}
use Rattle.cv_cluster.specs.Opening.{new_node}
use Rattle.cv_cluster.proofs.opening.new_nodes.Given as goal

-- those passed have a node
abbrev pub invariant-loop-spec : goal.invariant-loop-spec
invariant-loop-spec l = l.nodes.items ≡ map new_node l.yielded
