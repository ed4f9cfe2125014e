use Rattle.std.proofs.Common.{◌≡◌, ◌+◌, length}
use Rattle.cv_lex.specs.Texts.{said_from, bad_of}
use Rattle.cv_lex.proofs.escapes.bad_escape.Given as goal

-- the first bad escape is in what is left
abbrev pub invariant-loop-rest : goal.invariant-loop-rest
invariant-loop-rest l = record {
  place : l.at + length l.rest ≡ length l.inside;
  left : bad_of (said_from l.at 0 l.rest) ≡ bad_of (said_from 0 0 l.inside);
}

abbrev pub decreases-loop-rest : goal.decreases-loop-rest
decreases-loop-rest l = length l.rest
