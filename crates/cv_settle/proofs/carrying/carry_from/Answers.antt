use Rattle.std.proofs.Common.{false, is_err}
use Rattle.cv_settle.proofs.Parts.{sweeps_failed, sweeps_none, sweeps_then}
use Rattle.cv_settle.proofs.carrying.carry_from.Goals as goal

pub loop-port-init : goal.loop-port-init
loop-port-init c = sweeps_none false c.args.stations.now c.requires.meshed

pub returns-in_err-moved : goal.returns-in_err-moved
returns-in_err-moved c =
    sweeps_failed (is_err c.from_residual.result) c.args.stations.now c.loop-port.stations c.carry_port.new.stations c.from_residual.ensures.0 c.loop-port.invariant c.in_err-moved.ensures

pub loop-port-preserved : goal.loop-port-preserved
loop-port-preserved c =
    sweeps_then false c.args.stations.now c.loop-port.stations c.carry_port.new.stations c.loop-port.invariant c.in_ok-moved.ensures
