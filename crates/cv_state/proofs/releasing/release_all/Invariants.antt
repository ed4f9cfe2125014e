use Rattle.std.proofs.Common.{◌≡◌, ◌+◌, ◌≤◌, length, drop}
use Rattle.cv_state.specs.Arrivals.{all_released, moves_of}
use Rattle.cv_state.proofs.releasing.release_all.Given as goal

abbrev pub invariant-loop-hint : goal.invariant-loop-hint
invariant-loop-hint l = record {
  whole : all_released (drop l.hint-index l.hints) (moves_of l.frozen.map l.judged.map) ≡ all_released l.hints (moves_of l.fn.frozen.map l.fn.judged.map);
  room : length l.hints ≤ l.judged.spare + l.hint-index;
}
