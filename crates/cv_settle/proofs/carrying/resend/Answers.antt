use Rattle.std.proofs.Common.{false, is_err}
use Rattle.cv_settle.proofs.Parts.{sweeps_failed, sweeps_then}
use Rattle.cv_settle.proofs.carrying.resend.Goals as goal

pub returns-in_err-carry_tokens : goal.returns-in_err-carry_tokens
returns-in_err-carry_tokens c =
    sweeps_failed (is_err c.from_residual-in_err-carry_tokens.result) c.args.stations.now c.rewind.new.stations c.carry_tokens.new.stations c.from_residual-in_err-carry_tokens.ensures.0 c.in_ok-rewind.ensures c.in_err-carry_tokens.ensures

pub returns-then-not-branch : goal.returns-then-not-branch
returns-then-not-branch c =
    sweeps_then false c.args.stations.now c.rewind.new.stations c.carry_tokens.new.stations c.in_ok-rewind.ensures c.in_ok-carry_tokens.ensures

pub returns : goal.returns
returns c =
    sweeps_then (is_err c.exchange.result) c.args.stations.now c.carry_tokens.new.stations c.exchange.new.stations (sweeps_then false c.args.stations.now c.rewind.new.stations c.carry_tokens.new.stations c.in_ok-rewind.ensures c.in_ok-carry_tokens.ensures) c.exchange.ensures
