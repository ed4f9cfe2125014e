use Rattle.std.proofs.Common.{length, ◌-◌}
use Rattle.cv_io.proofs.Progress.{HasWritten}
use Rattle.cv_io.proofs.transfer.write_all.Given as goal

abbrev pub invariant-loop-at : goal.invariant-loop-at
invariant-loop-at g l =
    let k = g.K.Sink in
    HasWritten l.text (k.written l.fn.sink) (k.written l.sink) (k.faults l.fn.sink) (k.faults l.sink) l.at

abbrev pub decreases-loop-at : goal.decreases-loop-at
decreases-loop-at g l = length l.text - l.at
