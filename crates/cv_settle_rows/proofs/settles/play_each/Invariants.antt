use Rattle.cv_mesh.specs.Moving.{AreMeshed}
use Rattle.cv_settle_rows.proofs.settles.play_each.Given as goal

abbrev pub invariant-loop-place : goal.invariant-loop-place
invariant-loop-place l = AreMeshed l.stations
