use Rattle.cv_alone.proofs.Sweeps.{SweptSoFar}
use Rattle.cv_alone.proofs.sweep.poll_all.Given as goal

abbrev pub invariant-loop-place : goal.invariant-loop-place
invariant-loop-place l = SweptSoFar l.fn.node l.node l.swept l.most l.place
