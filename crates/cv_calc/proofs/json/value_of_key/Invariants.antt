use Rattle.std.proofs.Common.{◌≡◌, drop}
use Rattle.cv_calc.specs.Values.{value_at}
use Rattle.cv_calc.proofs.json.value_of_key.Given as goal

abbrev pub invariant-loop-pair : goal.invariant-loop-pair
invariant-loop-pair l = value_at l.key (drop l.pair-index l.pair-items) ≡ value_at l.fn.key l.fn.pairs
