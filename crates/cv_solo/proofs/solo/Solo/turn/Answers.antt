use Rattle.std.proofs.Common.{◌≡◌, ◌<◌, ◌∙◌, ℕ, Some, None, subst}
use Rattle.cv_solo.specs.Machine.{Machine}
use Rattle.cv_solo.specs.OneRuntime.{fire}
use Rattle.cv_solo.specs.PlainNetwork.{actions_of}
use Rattle.cv_solo.proofs.Turns.{not_this, this_one}
use Rattle.cv_solo.proofs.solo.Solo.turn.Goals as goal

pub returns-in-Ok-clause-first : goal.returns-in-Ok-clause-first
returns-in-Ok-clause-first c =
    let count : ℕ = actions_of c.args.self.now.net c.args.actor in
    let within : c.loop-action.action < count = subst (λ (n : ℕ). c.loop-action.action < n) c.action_count-action-end.ensures c.loop-action-test.true in
    let fires = subst (λ (m : Machine). fire m.net m.runtime c.args.actor c.loop-action.action ≡ Some c.fire.new.self.runtime) c.loop-action.invariant.same c.in-Ok.ensures.fired in
    this_one c.args.self.now.net c.args.self.now.runtime c.fire.new.self.runtime c.args.actor c.loop-action.action count _ within fires c.loop-action.invariant.left

pub loop-action-preserved : goal.loop-action-preserved
loop-action-preserved c =
    let count : ℕ = actions_of c.args.self.now.net c.args.actor in
    let within : c.loop-action.action < count = subst (λ (n : ℕ). c.loop-action.action < n) c.action_count-action-end.ensures c.loop-action-test.true in
    let none = subst (λ (m : Machine). fire m.net m.runtime c.args.actor c.loop-action.action ≡ None) c.loop-action.invariant.same (c.in-Err-NotEnabled.ensures.not_enabled (cc)) in
    record {
      same = c.in-Err-NotEnabled.ensures.err ∙ c.loop-action.invariant.same;
      left = not_this c.args.self.now.net c.args.self.now.runtime c.args.actor c.loop-action.action count _ within none c.loop-action.invariant.left;
    }
