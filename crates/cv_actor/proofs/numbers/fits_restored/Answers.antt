use Rattle.std.proofs.Common.{◌≡◌, ◌+◌, ◌<◌, sym, ◌∙◌, arith}
use Rattle.cv_protocol.specs.Poll.{all_outs_fit, limit}
use Rattle.cv_actor.proofs.Gifts.{restored_fits}
use Rattle.cv_actor.proofs.numbers.fits_restored.Goals as goal

pub returns : goal.returns
returns c =
    let s = c.args.state.now in
    let due : c.args.now + s.wait < limit = omega (arith, c.wait.ensures, c.if-wait-now.false, c.requires) in
    let attempt : c.args.attempt < limit = omega (arith, c.if-attempt-ge-LIMIT.false) in
    let ins = rw c.ins.ensures at (sym c.if-not-all_inlets_fit.ensures) in
    let outs : c.all_outs_fit.result ≡ all_outs_fit s.actor.outs = rw c.outs.ensures at c.all_outs_fit.ensures in
    outs ∙ restored_fits s c.args.attempt c.args.now due attempt ins
