use denote.Shadow.{shadow}
use denote.Text.{Utf8}
use Rattle.std.proofs.Common.{◌≡◌, length, string_bytes}
use Rattle.cv_lex.specs.Texts.{said, said_from, good_of, with_bytes}
use Rattle.cv_lex.proofs.saying.unescape.Given as goal

-- what was said so far and what is left say the whole
abbrev pub invariant-loop-rest : goal.invariant-loop-rest
invariant-loop-rest l = shadow (Utf8 l.rest) × (good_of (with_bytes (string_bytes l.text) (said_from 0 0 l.rest)) ≡ said l.fn.inside)

abbrev pub decreases-loop-rest : goal.decreases-loop-rest
decreases-loop-rest l = length l.rest
