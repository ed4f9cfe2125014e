use Rattle.std.proofs.Common.{◌≡◌, map, take}
use Rattle.cv_lex.specs.Words.{placed_word}
use Rattle.cv_lex.proofs.wording.words.Given as goal

-- the words so far are those of the lexemes so far
abbrev pub invariant-loop-lexeme : goal.invariant-loop-lexeme
invariant-loop-lexeme l = l.words.items ≡ map (placed_word l.source) (take l.lexeme-index l.found)
