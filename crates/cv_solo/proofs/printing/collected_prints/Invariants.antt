use Rattle.std.proofs.Common.{◌≡◌, ◌++◌, map, drop}
use Rattle.cv_solo.specs.Keyed.{keyed}
use Rattle.cv_solo.specs.PrintedText.{prints_from}
use Rattle.cv_solo.proofs.printing.collected_prints.Given as goal

abbrev pub invariant-loop-place : goal.invariant-loop-place
invariant-loop-place l = map keyed l.prints.items ++ prints_from l.place (drop l.place l.actors) ≡ prints_from 0 l.actors
