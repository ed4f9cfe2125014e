use Rattle.std.proofs.Common.{◌≡◌, ◌++◌, true, drop}
use Rattle.cv_state.specs.Deploying.{are_due, new_lives}
use Rattle.cv_state.proofs.deploy.new_lives.Given as goal

abbrev pub invariant-loop-place : goal.invariant-loop-place
invariant-loop-place l = record {
  due : are_due l.now (drop l.place l.actors) ≡ true;
  whole : l.lives.items ++ new_lives l.app l.connections l.now l.place (drop l.place l.actors) ≡ new_lives l.app l.connections l.now 0 l.actors;
}
