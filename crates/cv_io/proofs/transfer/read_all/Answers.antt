use Rattle.std.proofs.Common.{◌+◌, arith}
use Rattle.std.proofs.lemmas.List.{length-take}
use Rattle.std.proofs.lemmas.Result.{err_from_is_err_and}
use Rattle.cv_io.proofs.Progress.{given_more}
use Rattle.cv_io.proofs.transfer.read_all.Goals as goal

pub returns-then-count-room-clause-bytes : goal.returns-then-count-room-clause-bytes
returns-then-count-room-clause-bytes g c =
    let piece = c.in-Bytes.ensures.bytes in
    let more = given_more _ _ _ _ _ _ c.loop-count.invariant.given piece.1 piece.2 in
    (more.0, more.1, omega (arith, more.2, c.loop-count.bytes.ok.0, length-take (c.min.result + 1) c.loop-count.step))

pub returns-in_err-extend_from_slice-in-Bytes-clause-bytes :
    goal.returns-in_err-extend_from_slice-in-Bytes-clause-bytes
returns-in_err-extend_from_slice-in-Bytes-clause-bytes g c =
    let piece = c.in-Bytes.ensures.bytes in
    let more = given_more _ _ _ _ _ _ c.loop-count.invariant.given piece.1 piece.2 in
    let p = err_from_is_err_and c.from_residual.result c.from_residual.ensures.1 in
    rw (p.1, p.2) (more.0, more.1, omega (arith, more.2, c.loop-count.bytes.ok.0))
