use Rattle.std.proofs.Common.{◌≡◌, false, drop}
use Rattle.cv_lex.specs.Spans.{closing}
use Rattle.cv_lex.proofs.spans.closing_place.Given as goal

-- the quote that ends the text stands in what is left
abbrev pub invariant-loop-i : goal.invariant-loop-i
invariant-loop-i l = closing l.i l.hidden (drop l.i l.bytes) ≡ closing 0 false l.bytes
