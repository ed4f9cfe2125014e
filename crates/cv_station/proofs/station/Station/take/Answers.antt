use Rattle.std.proofs.Common.{Bool, false, true, sym, subst}
use Rattle.cv_station.specs.Going.{Goes}
use Rattle.cv_station.proofs.Goes.{goes_received, goes_untaken}
use Rattle.cv_station.proofs.station.Station.take.Goals as goal

pub returns-in_default-clause-goes : goal.returns-in_default-clause-goes
returns-in_default-clause-goes c =
    let popped = c.in_default.ensures in
    goes_untaken c.args.most c.args.self.now c.pop.new.self c.args.place popped.node popped.fired popped.quota popped.takes

pub returns-in_err-receive-clause-goes : goal.returns-in_err-receive-clause-goes
returns-in_err-receive-clause-goes c =
    let popped = c.in-Some.ensures in
    subst (λ (b : Bool). Goes c.args.most c.args.self.now b c.receive.new.self) (sym c.from_residual.ensures.0)
    (goes_received c.args.most true c.args.self.now c.pop.new.self c.receive.new.self c.args.place c.in-Some.told popped.node popped.fired popped.quota popped.takes c.in_err-receive.ensures c.requires.room c.requires.place)

pub returns-clause-goes : goal.returns-clause-goes
returns-clause-goes c =
    let popped = c.in-Some.ensures in
    goes_received c.args.most false c.args.self.now c.pop.new.self c.receive.new.self c.args.place c.in-Some.told popped.node popped.fired popped.quota popped.takes c.in_ok-receive.ensures c.requires.room c.requires.place
