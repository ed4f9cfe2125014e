use Rattle.cv_alone.proofs.Sweeps.{PassesSoFar}
use Rattle.cv_alone.proofs.sweep.pass_all.Given as goal

abbrev pub invariant-loop-place : goal.invariant-loop-place
invariant-loop-place l = PassesSoFar l.fn.node l.node l.passed l.place
