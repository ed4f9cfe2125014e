use Rattle.cv_mesh.specs.Moving.{Turns}
use Rattle.cv_mesh.specs.Passed.{PassedEach}
use Rattle.cv_mesh.proofs.turning.end_turns.Given as goal

-- those passed have ended
abbrev pub invariant-loop-place : goal.invariant-loop-place
invariant-loop-place l = PassedEach Turns l.fn.stations l.place l.stations
