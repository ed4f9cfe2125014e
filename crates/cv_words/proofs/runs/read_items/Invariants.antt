use Rattle.std.proofs.Common.{◌≡◌, ◌++◌, All, drop, length, map, option_map, string_bytes}
use Rattle.cv_words.specs.Items.{IsProper, items_of}
use Rattle.cv_words.proofs.runs.read_items.Given as goal

abbrev pub invariant-loop-word : goal.invariant-loop-word
invariant-loop-word l = record {
  items : items_of (map string_bytes l.words) ≡ option_map (λ rest. l.items.items ++ rest) (items_of (map string_bytes (drop l.word-index l.words)));
  count : length l.items.items ≡ l.word-index;
  proper : All IsProper l.items.items;
}
