use Rattle.std.proofs.Common.{inr, sym}
use Rattle.cv_state.proofs.Deploys.{deploy_spent}
use Rattle.cv_state.proofs.Local.{first_false}
use Rattle.cv_state.proofs.state.State.deploy.Goals as goal

pub returns-then-not-is_timely-clause-cause : goal.returns-then-not-is_timely-clause-cause
returns-then-not-is_timely-clause-cause c =
    inr (deploy_spent c.args.self.now c.args.name.now c.args.net.now (sym c.if-not-may_deploy.ensures) (first_false _ _ (sym c.if-not-is_timely.ensures)))
