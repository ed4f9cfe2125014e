use Rattle.std.proofs.Common.{◌≡◌, ◌+◌, ◌-◌, ℕ, Option, sym, subst, arith}
use Rattle.cv_alone.specs.Going.{GoesOn, is_own}
use Rattle.cv_node.specs.Journalled.{Journalled}
use Rattle.cv_alone.specs.Resting.{IsPatient}
use Rattle.cv_alone.specs.Turns.{Turns}
use Rattle.cv_alone.proofs.Sweeps.{goes_on_step}
use Rattle.cv_alone.proofs.alone.go_on.Goals as goal

pub loop-left-preserved : goal.loop-left-preserved
loop-left-preserved c =
    let turns = subst (λ (o : Option ℕ). Turns c.loop-left.node c.args.actors c.args.connections c.loop-left.left o c.turn.new.node) c.in-Some.is c.in_ok-fired.ensures in
    let count : (c.args.most - c.loop-left.left) + c.in-Some.fired ≡ c.args.most - (c.loop-left.left - c.in-Some.fired) = omega (arith, c.loop-left.invariant.within, turns.0) in
    record {
      within = omega (arith, c.loop-left.invariant.within);
      goes_on = subst (GoesOn is_own c.args.node.now c.turn.new.node) count (goes_on_step is_own c.args.node.now c.loop-left.node c.turn.new.node (c.args.most - c.loop-left.left) c.in-Some.fired c.loop-left.invariant.goes_on turns.1);
      patient = λ h. turns.3 (c.loop-left.invariant.patient h);
      ends = λ spent some. turns.4 (omega (arith, turns.0, spent));
    }

pub returns-in_default-clause-patient : goal.returns-in_default-clause-patient
returns-in_default-clause-patient c h =
    let turns = subst (λ (o : Option ℕ). Turns c.loop-left.node c.args.actors c.args.connections c.loop-left.left o c.turn.new.node) c.in_default.is c.in_ok-fired.ensures in
    subst (λ (j : Journalled). IsPatient c.args.actors c.args.connections j.base j.entries) (sym turns.0) (c.loop-left.invariant.patient h)
