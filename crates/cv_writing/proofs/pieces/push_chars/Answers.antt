use Rattle.cv_writing.proofs.Quotes.{char_more}
use Rattle.cv_writing.proofs.pieces.push_chars.Goals as goal

pub loop-ch-preserved : goal.loop-ch-preserved
loop-ch-preserved c = char_more _ _ _ _ _ _ c.loop-ch.invariant c.in_ok-push_char.ensures c.in-Some.ensures.steps.0
