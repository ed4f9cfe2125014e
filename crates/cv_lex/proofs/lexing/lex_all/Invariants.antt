use Rattle.std.proofs.Common.{◌≡◌, ◌+◌, length}
use Rattle.cv_lex.specs.Lexemes.{lexemes, with_front}
use Rattle.cv_lex.proofs.lexing.lex_all.Given as goal

-- the lexemes so far and those of the rest are those of the whole
abbrev pub invariant-loop-rest : goal.invariant-loop-rest
invariant-loop-rest l = record {
  place : l.at + length l.rest ≡ length l.fn.source;
  left : with_front l.found.items (lexemes l.at 0 l.rest) ≡ lexemes 0 0 l.fn.source;
}

abbrev pub decreases-loop-rest : goal.decreases-loop-rest
decreases-loop-rest l = length l.rest
