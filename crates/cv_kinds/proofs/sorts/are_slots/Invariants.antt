use Rattle.std.proofs.Common.{◌≡◌, drop, length}
use Rattle.cv_kinds.specs.Sorts.{are_slots}
use Rattle.cv_kinds.proofs.sorts.are_slots.Given as goal

abbrev pub invariant-loop-place : goal.invariant-loop-place
invariant-loop-place l = record {
  same : length l.slots ≡ length l.state;
  rest : are_slots l.args (drop l.place l.slots) (drop l.place l.state) ≡ are_slots l.args l.slots l.state;
}
