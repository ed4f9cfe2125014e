use Rattle.std.proofs.Common.{false, is_err}
use Rattle.cv_settle.proofs.Parts.{sweeps_failed, sweeps_none, sweeps_then}
use Rattle.cv_settle.proofs.carrying.carry_all.Goals as goal

pub loop-place-init : goal.loop-place-init
loop-place-init c = sweeps_none false c.args.stations.now c.requires.meshed

pub returns-in_err-moved : goal.returns-in_err-moved
returns-in_err-moved c =
    sweeps_failed (is_err c.from_residual.result) c.args.stations.now c.loop-place.stations c.carry_from.new.stations c.from_residual.ensures.0 c.loop-place.invariant c.in_err-moved.ensures

pub loop-place-preserved : goal.loop-place-preserved
loop-place-preserved c =
    sweeps_then false c.args.stations.now c.loop-place.stations c.carry_from.new.stations c.loop-place.invariant c.in_ok-moved.ensures
