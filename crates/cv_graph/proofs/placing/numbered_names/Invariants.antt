use Rattle.std.proofs.Common.{◌≡◌, ◌++◌, drop}
use Rattle.cv_graph.specs.Ports.{texts}
use Rattle.cv_graph.specs.Tables.{numbered}
use Rattle.cv_graph.proofs.placing.numbered_names.Given as goal

-- what has numbers and what is left are the whole
abbrev pub invariant-loop-number : goal.invariant-loop-number
invariant-loop-number l = l.numbers ++ numbered l.number (texts (drop l.number l.names)) ≡ numbered 0 (texts l.names)
