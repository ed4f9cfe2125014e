use Rattle.std.proofs.Common.{◌-◌, vec_len}
use Rattle.cv_io.proofs.Progress.{HasRead}
use Rattle.cv_io.proofs.transfer.read_all.Given as goal

abbrev pub invariant-loop-count : goal.invariant-loop-count
invariant-loop-count g l =
    let s = g.S.Source in
    HasRead l.limit (s.left l.fn.source) (s.left l.source) (s.faults l.fn.source) (s.faults l.source) l.bytes.items

abbrev pub decreases-loop-count : goal.decreases-loop-count
decreases-loop-count g l = l.limit - vec_len l.bytes
