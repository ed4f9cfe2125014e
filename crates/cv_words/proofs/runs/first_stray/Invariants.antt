use Rattle.std.proofs.Common.{◌≡◌, drop}
use Rattle.cv_words.specs.Items.{stray_from}
use Rattle.cv_words.proofs.runs.first_stray.Given as goal

abbrev pub invariant-loop-item : goal.invariant-loop-item
invariant-loop-item l = record {
  count : l.place ≡ l.item-index;
  stray : stray_from 0 l.nodes l.items ≡ stray_from l.item-index l.nodes (drop l.item-index l.items);
}
