use Rattle.std.specs.List.{sum_by}
use Rattle.cv_graph.specs.Ways.{AreWithin, IsOn, still}
use Rattle.cv_graph.proofs.ways.follow.Given as goal

abbrev pub invariant-loop : goal.invariant-loop
invariant-loop l = record {
  within : AreWithin l.ways;
  known : IsOn l.fn.ways l.ways;
}

abbrev pub decreases-loop : goal.decreases-loop
decreases-loop l = sum_by still l.ways
