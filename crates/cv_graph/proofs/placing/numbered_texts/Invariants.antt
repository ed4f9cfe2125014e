use Rattle.std.proofs.Common.{◌≡◌, ◌++◌, drop, map}
use Rattle.cv_graph.specs.Tables.{numbered}
use Rattle.cv_graph.proofs.placing.numbered_texts.Given as goal

-- what has numbers and what is left are the whole
abbrev pub invariant-loop-number : goal.invariant-loop-number
invariant-loop-number l = l.numbers ++ numbered l.number (map (λ text. text.now) (drop l.number l.texts)) ≡ numbered 0 (map (λ text. text.now) l.texts)
