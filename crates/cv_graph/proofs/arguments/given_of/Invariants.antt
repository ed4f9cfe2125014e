use Rattle.std.proofs.Common.{◌≡◌, ◌++◌, drop}
use Rattle.cv_graph.specs.Arguments.{given_of, tokenless}
use Rattle.cv_graph.proofs.arguments.given_of.Given as goal

-- what is left decides
abbrev pub invariant-loop-argument : goal.invariant-loop-argument
invariant-loop-argument l = record {
  fault : tokenless (drop l.argument-index l.args) ≡ tokenless l.args;
  given : l.given ++ given_of (drop l.argument-index l.args) ≡ given_of l.args;
}
