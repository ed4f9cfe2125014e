use Rattle.std.proofs.Common.{◌≡◌, true, sym, subst}
use Rattle.cv_protocol.specs.Actors.{LiveState}
use Rattle.cv_protocol.specs.Poll.{Fires, all_outs_fit, look}
use Rattle.cv_actor.proofs.Gifts.{firing_fits}
use Rattle.cv_state.proofs.Local.{fires_as_told, one_found}
use Rattle.cv_state.proofs.state.State.fire.Goals as goal

pub fits_firing-requires-clause-fires : goal.fits_firing-requires-clause-fires
fits_firing-requires-clause-fires c = fires_as_told c.in-Some.live.now c.self.inside.moment c.args.action c.outlook.result c.outlook.ensures c.if-not-is_fire.ensures

pub fire-requires-clause-fires : goal.fire-requires-clause-fires
fire-requires-clause-fires c =
    let one : c.in-Some.live.now ≡ c.in-Some-get_mut.live.now = one_found _ _ _ c.in-Some.ensures c.in-Some-get_mut.ensures.value in
    subst (λ (l : LiveState). look l c.self.inside.moment c.args.action ≡ Fires) one (fires_as_told c.in-Some.live.now c.self.inside.moment c.args.action c.outlook.result c.outlook.ensures c.if-not-is_fire.ensures)

pub fire-requires-clause-writable : goal.fire-requires-clause-writable
fire-requires-clause-writable c =
    let one : c.in-Some.live.now ≡ c.in-Some-get_mut.live.now = one_found _ _ _ c.in-Some.ensures c.in-Some-get_mut.ensures.value in
    let fires = fires_as_told c.in-Some.live.now c.self.inside.moment c.args.action c.outlook.result c.outlook.ensures c.if-not-is_fire.ensures in
    subst (λ (l : LiveState). all_outs_fit l.actor.outs ≡ true) one (firing_fits c.in-Some.live.now c.self.inside.moment c.args.action fires (sym c.if-not-fits_firing.ensures)).1
