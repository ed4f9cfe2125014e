use Rattle.std.proofs.Common.{◌≡◌, ◌+◌, ◌<◌, sym, ◌∙◌, arith}
use Rattle.cv_behave.specs.KindRow.{given}
use Rattle.cv_protocol.specs.Poll.{limit, row_at}
use Rattle.cv_actor.specs.Room.{have_numbers}
use Rattle.cv_actor.proofs.Gifts.{fits_by}
use Rattle.cv_actor.proofs.live.Live.fits_firing.Goals as goal

pub returns : goal.returns
returns c =
    let l = c.args.self.now in
    let pause = rw c.spec-spec.ensures at c.pause.ensures in
    let due : c.args.now + (row_at l).pause l.actor.spec.args < limit = omega (arith, pause, c.if-pause-now.false, c.requires.moment) in
    let attempt : l.attempt < limit = omega (arith, c.attempt.ensures, c.if-attempt-ge-LIMIT.false) in
    let ins = rw (c.spec-spec.ensures, c.ins.ensures.value) at (sym c.if-not-all_fit_taken.ensures) in
    let outs : c.have_numbers.result ≡ have_numbers (given (row_at l) c.args.action) 0 l.actor.outs = rw (c.spec-spec.ensures, c.outs.ensures.value) at c.have_numbers.ensures in
    outs ∙ fits_by l c.args.now c.args.action c.requires.fires due attempt ins
