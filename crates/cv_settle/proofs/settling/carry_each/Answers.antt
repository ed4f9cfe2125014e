use Rattle.std.proofs.Common.{false, is_err}
use Rattle.cv_settle.proofs.Parts.{sweeps_failed, sweeps_then}
use Rattle.cv_settle.proofs.settling.carry_each.Goals as goal

pub returns-in_err-moved-2 : goal.returns-in_err-moved-2
returns-in_err-moved-2 c =
    sweeps_failed (is_err c.from_residual-in_err-moved-2.result) c.args.stations.now c.loop-place.stations c.carry_all.new.stations c.from_residual-in_err-moved-2.ensures.0 c.loop-place.invariant c.in_err-moved-2.ensures

pub loop-place-preserved : goal.loop-place-preserved
loop-place-preserved c =
    sweeps_then false c.args.stations.now c.loop-place.stations c.carry_all.new.stations c.loop-place.invariant c.in_ok-moved-2.ensures
