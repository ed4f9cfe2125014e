use Rattle.std.proofs.Common.{◌∙◌, ap, inr, sym, ◌+◌}
use Rattle.cv_protocol.specs.NodeState.{NodeState}
use Rattle.cv_state.proofs.Local.{both_true, either_false, first_false, is_less, late, not_less, timely}
use Rattle.cv_state.proofs.Ways.{pass_idle, pass_leads, pass_spent}
use Rattle.cv_state.proofs.state.State.pass.Goals as goal

pub returns-in_default-2-clause-cause : goal.returns-in_default-2-clause-cause
returns-in_default-2-clause-cause c =
    inr (pass_idle c.args.self.now c.args.conn c.in-Some.way c.in-Some.ensures (sym c.in_default-2.is ∙ c.in_ok-passing.ensures))

pub returns-then-passing-ge-LIMIT-clause-cause : goal.returns-then-passing-ge-LIMIT-clause-cause
returns-then-passing-ge-LIMIT-clause-cause c =
    inr (pass_spent c.args.self.now c.args.conn c.in-Some.way c.in-Some-2.passing c.in-Some.ensures (sym c.in-Some-2.is ∙ c.in_ok-passing.ensures) (first_false _ _ (not_less _ _ c.if-passing-ge-LIMIT.true)))

pub returns-then-is_spent-clause-cause : goal.returns-then-is_spent-clause-cause
returns-then-is_spent-clause-cause c =
    inr (pass_spent c.args.self.now c.args.conn c.in-Some.way c.in-Some-2.passing c.in-Some.ensures (sym c.in-Some-2.is ∙ c.in_ok-passing.ensures) (either_false _ _ (late _ (sym c.if-is_spent.ensures))))

pub returns-clause-done : goal.returns-clause-done
returns-clause-done c =
    let early = both_true _ _ (is_less _ _ c.if-passing-ge-LIMIT.false) (timely _ (sym c.if-is_spent.ensures)) in
    pass_leads c.args.self.now c.args.conn c.in-Some.way c.in-Some-2.passing c.step_on.new.self c.in-Some.ensures (sym c.in-Some-2.is ∙ c.in_ok-passing.ensures) early (c.step_on.ensures ∙ ap (λ (s : NodeState). record s { stamp = s.stamp + 1 }) c.pass_on.ensures)
