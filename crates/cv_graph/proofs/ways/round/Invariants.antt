use Rattle.cv_graph.proofs.Leaping.{Round}
use Rattle.cv_graph.proofs.ways.round.Given as goal

abbrev pub invariant-loop-at : goal.invariant-loop-at
invariant-loop-at l = Round l.initial.ways l.ways l.found l.at
