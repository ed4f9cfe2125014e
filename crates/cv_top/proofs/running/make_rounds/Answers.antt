use Rattle.std.proofs.Common.{◌≡◌, ◌-◌, min, length, refl, sym, subst, ◌∙◌}
use Rattle.cv_kinds.specs.Net.{Net}
use Rattle.cv_solo.specs.OneRuntime.{Runtime}
use Rattle.cv_solo.specs.PlainNetwork.{Begins, round_firings}
use Rattle.cv_solo.proofs.Replays.{RanSoFar, not_run, round_made, stopped}
use Rattle.cv_top.proofs.running.make_rounds.Goals as goal

pub loop-fired-init : goal.loop-fired-init
loop-fired-init c = record {
  net = refl;
  ran = subst (λ (r : Runtime). RanSoFar c.args.solo.now.net c.args.most 0 r) (sym c.requires) (not_run c.args.solo.now.net c.args.most);
}

pub returns-then-more-eq0-clause-made : goal.returns-then-more-eq0-clause-made
returns-then-more-eq0-clause-made c =
    let now : Runtime = c.loop-fired.solo.runtime in
    let Fires : Net → Type 0 = λ net. (c.in_ok-more.more ≡ min (c.args.most - c.loop-fired.fired) (length (round_firings net now))) × Begins net now c.in_ok-more.more c.round.new.self.runtime in
    let h = subst Fires c.loop-fired.invariant.net c.in_ok-more.ensures.fired in
    stopped c.args.solo.now.net c.args.most c.loop-fired.fired c.in_ok-more.more now c.round.new.self.runtime c.loop-fired-test.true c.loop-fired.invariant.ran h.0 h.1 c.if-more-eq0.true

pub loop-fired-preserved : goal.loop-fired-preserved
loop-fired-preserved c =
    let now : Runtime = c.loop-fired.solo.runtime in
    let Fires : Net → Type 0 = λ net. (c.in_ok-more.more ≡ min (c.args.most - c.loop-fired.fired) (length (round_firings net now))) × Begins net now c.in_ok-more.more c.round.new.self.runtime in
    let h = subst Fires c.loop-fired.invariant.net c.in_ok-more.ensures.fired in
    record {
      net = c.in_ok-more.ensures.net ∙ c.loop-fired.invariant.net;
      ran = round_made c.args.solo.now.net c.args.most c.loop-fired.fired c.in_ok-more.more now c.round.new.self.runtime c.loop-fired-test.true c.loop-fired.invariant.ran h.0 h.1;
    }
