use Rattle.std.proofs.Common.{false, is_err}
use Rattle.cv_settle.proofs.Settles.{settled_failed, settled_then}
use Rattle.cv_settle.proofs.settling.settle.Goals as goal

pub returns-in_err-sweep : goal.returns-in_err-sweep
returns-in_err-sweep c =
    settled_failed (is_err c.from_residual.result) c.args.stations.now c.loop-sweep.stations c.sweep.new.stations c.from_residual.ensures.0 c.loop-sweep.invariant c.in_err-sweep.ensures

pub returns-then-not-branch : goal.returns-then-not-branch
returns-then-not-branch c =
    settled_then false c.args.stations.now c.loop-sweep.stations c.sweep.new.stations c.loop-sweep.invariant c.in_ok-sweep.ensures

pub loop-sweep-preserved : goal.loop-sweep-preserved
loop-sweep-preserved c =
    settled_then false c.args.stations.now c.loop-sweep.stations c.sweep.new.stations c.loop-sweep.invariant c.in_ok-sweep.ensures
