use Rattle.std.proofs.Common.{◌≡◌, drop, length, map}
use Rattle.cv_kinds.specs.Sorts.{are_arguments}
use Rattle.cv_kinds.specs.Table.{taking}
use Rattle.cv_kinds.proofs.sorts.are_arguments.Given as goal

abbrev pub invariant-loop-place : goal.invariant-loop-place
invariant-loop-place l = record {
  same : length l.params ≡ length l.args;
  rest : are_arguments (map taking (drop l.place l.params)) (drop l.place l.args) ≡ are_arguments (map taking l.params) l.args;
}
