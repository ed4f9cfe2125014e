use Rattle.std.proofs.Common.{◌≡◌, ◌+◌, length}
use Rattle.cv_lex.specs.Spans.{place_of}
use Rattle.cv_lex.proofs.spans.place_of.Given as goal

-- the first place is in what is left
abbrev pub invariant-loop-rest : goal.invariant-loop-rest
invariant-loop-rest l = record {
  place : l.at + length l.rest ≡ length l.bytes;
  left : place_of l.at l.part l.rest ≡ place_of 0 l.part l.bytes;
}

abbrev pub decreases-loop-rest : goal.decreases-loop-rest
decreases-loop-rest l = length l.rest
