use Rattle.std.proofs.Common.{false, is_err}
use Rattle.cv_settle.proofs.Parts.{sweeps_failed, sweeps_none, sweeps_then}
use Rattle.cv_settle.proofs.carrying.carry_tokens.Goals as goal

pub loop-token-init : goal.loop-token-init
loop-token-init c = sweeps_none false c.args.stations.now c.requires.meshed

pub returns-in_err-act_at : goal.returns-in_err-act_at
returns-in_err-act_at c =
    sweeps_failed (is_err c.from_residual.result) c.args.stations.now c.loop-token.stations c.act_at.new.stations c.from_residual.ensures.0 c.loop-token.invariant c.in_err-act_at.ensures

pub returns-then-not-branch : goal.returns-then-not-branch
returns-then-not-branch c =
    sweeps_then false c.args.stations.now c.loop-token.stations c.act_at.new.stations c.loop-token.invariant c.in_ok-act_at.ensures

pub loop-token-preserved : goal.loop-token-preserved
loop-token-preserved c =
    sweeps_then false c.args.stations.now c.loop-token.stations c.act_at.new.stations c.loop-token.invariant c.in_ok-act_at.ensures
