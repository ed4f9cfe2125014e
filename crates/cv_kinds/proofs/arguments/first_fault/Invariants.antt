use Rattle.std.proofs.Common.{◌≡◌, drop, map}
use Rattle.cv_kinds.specs.Arguments.{faults_from}
use Rattle.cv_kinds.specs.Table.{taking}
use Rattle.cv_kinds.proofs.arguments.first_fault.Given as goal

abbrev pub invariant-loop-place : goal.invariant-loop-place
invariant-loop-place l = faults_from (map taking l.params) l.place (drop l.place l.given) ≡ faults_from (map taking l.params) 0 l.given
