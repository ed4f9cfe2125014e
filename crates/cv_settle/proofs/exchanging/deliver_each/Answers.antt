use Rattle.std.proofs.Common.{false, is_err}
use Rattle.cv_settle.proofs.Parts.{sweeps_failed, sweeps_none, sweeps_then}
use Rattle.cv_settle.proofs.exchanging.deliver_each.Goals as goal

pub loop-place-init : goal.loop-place-init
loop-place-init c = sweeps_none false c.args.stations.now c.requires

pub returns-in_err-one : goal.returns-in_err-one
returns-in_err-one c =
    sweeps_failed (is_err c.from_residual.result) c.args.stations.now c.loop-place.stations c.deliver_at.new.stations c.from_residual.ensures.0 c.loop-place.invariant c.in_err-one.ensures

pub loop-place-preserved : goal.loop-place-preserved
loop-place-preserved c =
    sweeps_then false c.args.stations.now c.loop-place.stations c.deliver_at.new.stations c.loop-place.invariant c.in_ok-one.ensures
