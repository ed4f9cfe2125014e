use Rattle.std.proofs.Common.{◌≡◌, false, refl, arith}
use Rattle.cv_actor.specs.declared.act.Polled.TheVariants as polled
use Rattle.cv_station.proofs.Goes.{goes_fired, goes_held, goes_none}
use Rattle.cv_station.proofs.station.Station.poll.Goals as goal

pub loop-self-init : goal.loop-self-init
loop-self-init c = goes_none c.args.most false c.args.self.now

pub loop-self-preserved : goal.loop-self-preserved
loop-self-preserved c =
    let told : c.in-Ok-Held.field-0 ≡ polled.Held c.in-Ok-Held._port = cc in
    goes_held c.args.most c.args.self.now c.loop-self.self _ c.args.actor c.in-Ok-Held.field-0 c.in-Ok-Held._port c.loop-self.invariant c.in-Ok-Held.ensures.done told refl refl refl (omega arith)

pub returns-in-Ok-Fired : goal.returns-in-Ok-Fired
returns-in-Ok-Fired c =
    let told : c.in-Ok-Fired.field-0 ≡ polled.Fired c.in-Ok-Fired._action = cc in
    goes_fired c.args.most c.args.self.now c.loop-self.self _ c.args.actor c.in-Ok-Fired.field-0 c.in-Ok-Fired._action c.loop-self.invariant c.in-Ok-Fired.ensures.done told refl refl refl (omega arith) (omega arith)
