use Rattle.std.proofs.Common.{◌≡◌, map}
use Rattle.std.specs.List.{range_with_len}
use Rattle.cv_spread.specs.Placing.{node_spec}
use Rattle.cv_spread.proofs.nodes.node_specs.Given as goal

abbrev pub invariant-loop-earlier : goal.invariant-loop-earlier
invariant-loop-earlier l = l.specs.items ≡ map node_spec (range_with_len 1 l.earlier)
