use Rattle.std.proofs.Common.{refl, ap, sym, subst, is_err}
use Rattle.cv_protocol.specs.declared.event.Event.TheVariants as event
use Rattle.cv_link.specs.declared.plan.Taken.{Taken}
use Rattle.cv_station.specs.Acts.{events_of}
use Rattle.cv_station.specs.Going.{Received}
use Rattle.cv_station.proofs.Goes.{received_back, received_one, received_twice}
use Rattle.cv_station.proofs.station.Station.receive.Goals as goal

pub returns-in_err-copy-in-Twice : goal.returns-in_err-copy-in-Twice
returns-in_err-copy-in-Twice c = received_back c.args.self.now c.args.self.now c.args.told _ refl c.from_residual.ensures.0

pub returns-in_err-get-in-Twice : goal.returns-in_err-get-in-Twice
returns-in_err-get-in-Twice c =
    received_back c.args.self.now c.get-in-Twice.new.self c.args.told _ c.in_err-get-in-Twice.ensures c.from_residual-in_err-get-in-Twice.ensures.0

pub returns-in-Deliver : goal.returns-in-Deliver
returns-in-Deliver c =
    received_one c.args.self.now c.get.new.self c.args.told (event.Deliver c.in-Deliver.frame) (is_err c.get.result) (ap events_of c.in-Deliver.is) c.get.ensures

pub returns-in_ok-get-in-Twice : goal.returns-in_ok-get-in-Twice
returns-in_ok-get-in-Twice c =
    subst (λ (t : Taken). Received c.args.self.now t (is_err c.get-in-Twice-2.result) c.get-in-Twice-2.new.self) (sym c.in-Twice.is)
    (received_twice c.args.self.now c.get-in-Twice.new.self c.get-in-Twice-2.new.self c.in-Twice.frame c.in_ok-copy-in-Twice.copy (is_err c.get-in-Twice-2.result) c.in_ok-copy-in-Twice.ensures c.in_ok-get-in-Twice.ensures c.get-in-Twice-2.ensures)

pub returns-in-Lost : goal.returns-in-Lost
returns-in-Lost c =
    received_one c.args.self.now c.get-in-Lost.new.self c.args.told (event.Lose c.in-Lost.frame) (is_err c.get-in-Lost.result) (ap events_of c.in-Lost.is) c.get-in-Lost.ensures
