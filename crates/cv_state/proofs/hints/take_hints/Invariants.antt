use Rattle.std.proofs.Common.{◌≡◌, ◌+◌, ◌≤◌, length, drop}
use Rattle.cv_state.specs.Arrivals.{all_hinted, places_of}
use Rattle.cv_state.proofs.hints.take_hints.Given as goal

abbrev pub invariant-loop-hint : goal.invariant-loop-hint
invariant-loop-hint l = record {
  whole : all_hinted (drop l.hint-index l.news) (places_of l.hints.map l.live.map) ≡ all_hinted l.news (places_of l.fn.hints.map l.fn.live.map);
  room : length l.news ≤ l.hints.spare + l.hint-index;
}
