use Rattle.std.proofs.Common.{◌≡◌, drop}
use Rattle.cv_solo.specs.PrintedText.{taken_at}
use Rattle.cv_solo.proofs.printing.taken_at.Given as goal

abbrev pub invariant-loop-place : goal.invariant-loop-place
invariant-loop-place l = taken_at (drop l.place l.connections) (drop l.place l.streams) l.actor l.port ≡ taken_at l.connections l.streams l.actor l.port
