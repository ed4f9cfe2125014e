use Rattle.cv_mesh.specs.Moving.{PeerTurns}
use Rattle.cv_mesh.specs.Passed.{PassedEach}
use Rattle.cv_mesh.proofs.turning.end_all.Given as goal

-- those passed have ended
abbrev pub invariant-loop-place : goal.invariant-loop-place
invariant-loop-place l = PassedEach PeerTurns l.fn.peers l.place l.peers
