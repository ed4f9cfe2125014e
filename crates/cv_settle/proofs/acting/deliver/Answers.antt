use Rattle.std.proofs.Common.{Bool, false, true, sym, subst}
use Rattle.cv_settle.specs.Settling.{Carries}
use Rattle.cv_settle.proofs.Silent.{carries_delivered, carries_none}
use Rattle.cv_settle.proofs.acting.deliver.Goals as goal

pub returns-then-before : goal.returns-then-before
returns-then-before c = carries_none true c.args.station.now

pub returns-in_err-deliver_all : goal.returns-in_err-deliver_all
returns-in_err-deliver_all c =
    subst (λ (b : Bool). Carries b c.args.station.now c.deliver_all.new.self) (sym c.from_residual.ensures.0)
    (carries_delivered true c.args.station.now c.deliver_all.new.self c.in_err-deliver_all.ensures.goes c.in_err-deliver_all.ensures.fired)

pub returns : goal.returns
returns c =
    carries_delivered false c.args.station.now c.deliver_all.new.self c.in_ok-deliver_all.ensures.goes c.in_ok-deliver_all.ensures.fired
