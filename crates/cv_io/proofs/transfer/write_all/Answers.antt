use Rattle.cv_io.proofs.Progress.{HasWritten-more}
use Rattle.cv_io.proofs.transfer.write_all.Goals as goal

pub loop-at-preserved : goal.loop-at-preserved
loop-at-preserved g c =
    let piece = c.in-Bytes.ensures.bytes in
    HasWritten-more _ _ _ _ _ _ _ _ _ c.loop-at.invariant c.in-Bytes.ensures.count piece.1 piece.2
