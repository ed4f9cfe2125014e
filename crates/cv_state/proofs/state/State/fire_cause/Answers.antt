use Rattle.cv_state.proofs.Local.{fires_as_told}
use Rattle.cv_state.proofs.state.State.fire_cause.Goals as goal

pub fits_firing-requires-clause-fires : goal.fits_firing-requires-clause-fires
fits_firing-requires-clause-fires c = fires_as_told c.in-Some.live.now c.self.inside.moment c.args.action c.outlook.result c.outlook.ensures c.if-not-is_fire.ensures
