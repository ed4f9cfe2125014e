use Rattle.std.proofs.Common.{◌≡◌, ◌+◌, ◌-◌, refl, sym, ◌∙◌, ap, subst, arith}
use Rattle.cv_cluster.specs.Cluster.{GoesOn}
use Rattle.cv_cluster.specs.Turns.{BringsOn, firings_by}
use Rattle.cv_cluster.proofs.Advancing.{goes_on_self, goes_on_then}
use Rattle.cv_cluster.proofs.Turns.{on_any_err, run_on, run_still, smaller_fired, smaller_settled}
use Rattle.cv_cluster.proofs.cluster.Cluster.run.Goals as goal

pub loop-left-init : goal.loop-left-init
loop-left-init g c =
    let none : 0 ≡ c.args.most - c.args.most = omega arith in
    record { within = omega arith; goes_on = subst (GoesOn c.args.self.now c.args.self.now) none (goes_on_self c.args.self.now); fine = refl }

pub returns-in_err-fired-clause-err : goal.returns-in_err-fired-clause-err
returns-in_err-fired-clause-err g c =
    let goes = c.turn.ensures.goes in
    let within = c.loop-left.invariant.within in
    let few = goes.1 in
    on_any_err c.from_residual.result (
      (c.args.most - c.loop-left.left) + goes.0,
      omega (arith, within, few),
      goes_on_then c.args.self.now c.loop-left.self c.turn.new.self (c.args.most - c.loop-left.left) goes.0 c.loop-left.invariant.goes_on goes.2,
    )

pub loop-left-smaller-in-Fired : goal.loop-left-smaller-in-Fired
loop-left-smaller-in-Fired g c =
    let goes = c.in_ok-fired.ensures.goes in
    let same : c.in-Fired.fired ≡ goes.0 = sym (ap firings_by c.in-Fired.is) ∙ goes.3 in
    let few = goes.1 in
    let some = subst (BringsOn c.loop-left.settled c.loop-left.self.nodes c.turn.new.self.nodes) c.in-Fired.is c.in_ok-fired.ensures.on in
    smaller_fired c.loop-left.self c.turn.new.self c.loop-left.left c.in-Fired.fired goes.0 c.loop-left.settled (omega (arith, same, few)) some goes.2

pub loop-left-preserved-in-Fired : goal.loop-left-preserved-in-Fired
loop-left-preserved-in-Fired g c =
    let goes = c.in_ok-fired.ensures.goes in
    let same : c.in-Fired.fired ≡ goes.0 = sym (ap firings_by c.in-Fired.is) ∙ goes.3 in
    let within = c.loop-left.invariant.within in
    record {
      within = omega (arith, within);
      goes_on = run_on c.args.self.now c.loop-left.self c.turn.new.self c.args.most c.loop-left.left goes.0 c.in-Fired.fired within goes.1 same c.loop-left.invariant.goes_on goes.2;
      fine = c.in_ok-fired.ensures.fine ∙ c.loop-left.invariant.fine;
    }

pub loop-left-smaller-in-Settled : goal.loop-left-smaller-in-Settled
loop-left-smaller-in-Settled g c =
    let goes = c.in_ok-fired.ensures.goes in
    let before = subst (BringsOn c.loop-left.settled c.loop-left.self.nodes c.turn.new.self.nodes) c.in-Settled.is c.in_ok-fired.ensures.on in
    smaller_settled c.loop-left.self c.turn.new.self c.loop-left.left goes.0 c.loop-left.settled before goes.2

pub loop-left-preserved-in-Settled : goal.loop-left-preserved-in-Settled
loop-left-preserved-in-Settled g c =
    let goes = c.in_ok-fired.ensures.goes in
    record {
      within = c.loop-left.invariant.within;
      goes_on = run_still c.args.self.now c.loop-left.self c.turn.new.self c.args.most c.loop-left.left goes.0 (sym (ap firings_by c.in-Settled.is) ∙ goes.3) c.loop-left.invariant.goes_on goes.2;
      fine = c.in_ok-fired.ensures.fine ∙ c.loop-left.invariant.fine;
    }

pub loop-left-preserved : goal.loop-left-preserved
loop-left-preserved g c =
    let goes = c.in_ok-fired.ensures.goes in
    record {
      within = c.loop-left.invariant.within;
      goes_on = run_still c.args.self.now c.loop-left.self c.turn.new.self c.args.most c.loop-left.left goes.0 (sym (ap firings_by c.in-Ticked.is) ∙ goes.3) c.loop-left.invariant.goes_on goes.2;
      fine = c.in_ok-fired.ensures.fine ∙ c.loop-left.invariant.fine;
    }

pub returns-in-Rested-clause-stops : goal.returns-in-Rested-clause-stops
returns-in-Rested-clause-stops g c =
    let goes = c.in_ok-fired.ensures.goes in
    let within = c.loop-left.invariant.within in (
      c.args.most - c.loop-left.left,
      omega (arith, within, c.loop-left-test.true),
      run_still c.args.self.now c.loop-left.self c.turn.new.self c.args.most c.loop-left.left goes.0 (sym (ap firings_by c.in-Rested.is) ∙ goes.3) c.loop-left.invariant.goes_on goes.2,
    )
