use Rattle.std.proofs.Common.{false, is_err}
use Rattle.cv_settle.proofs.Parts.{sweeps_failed, sweeps_none, sweeps_then}
use Rattle.cv_settle.proofs.exchanging.exchange.Goals as goal

pub loop-pass-init : goal.loop-pass-init
loop-pass-init c = sweeps_none false c.args.stations.now c.requires

pub returns-in_err-came : goal.returns-in_err-came
returns-in_err-came c =
    sweeps_failed (is_err c.from_residual.result) c.args.stations.now c.loop-pass.stations c.deliver_once.new.stations c.from_residual.ensures.0 c.loop-pass.invariant c.in_err-came.ensures

pub returns-then-not-came : goal.returns-then-not-came
returns-then-not-came c =
    sweeps_then false c.args.stations.now c.loop-pass.stations c.deliver_once.new.stations c.loop-pass.invariant c.in_ok-came.ensures

pub loop-pass-preserved : goal.loop-pass-preserved
loop-pass-preserved c =
    sweeps_then false c.args.stations.now c.loop-pass.stations c.deliver_once.new.stations c.loop-pass.invariant c.in_ok-came.ensures
