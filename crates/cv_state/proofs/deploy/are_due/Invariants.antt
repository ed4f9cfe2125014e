use Rattle.std.proofs.Common.{◌≡◌, drop}
use Rattle.cv_state.specs.Deploying.{are_due}
use Rattle.cv_state.proofs.deploy.are_due.Given as goal

abbrev pub invariant-loop-actor : goal.invariant-loop-actor
invariant-loop-actor l = are_due l.now (drop l.actor-index l.actors) ≡ are_due l.now l.actors
