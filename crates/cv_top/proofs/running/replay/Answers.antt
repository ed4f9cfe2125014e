use Rattle.std.proofs.Common.{◌≡◌, ℕ, suc, ◌+◌, [], ◌∷◌, ◌++◌, List, arith, drop, Some, sym, ap, ◌∙◌, subst, drop_of_length-le}
use Rattle.std.proofs.Math.Seq.{drop-cons}
use Rattle.std.proofs.lemmas.Option.{same_Some}
use Rattle.cv_kinds.specs.Net.{Net}
use Rattle.cv_protocol.specs.declared.event.Step.{Step}
use Rattle.cv_solo.specs.OneRuntime.{solo_from}
use Rattle.cv_top.specs.Printed.{firing_of, firings_of}
use Rattle.cv_top.proofs.running.replay.Goals as goal

pub loop-step-preserved : goal.loop-step-preserved
loop-step-preserved c =
    let s = c.step-item.result in
    let steps = c.args.steps.now in
    let i = c.loop-step.step-index in
    let rest = firings_of (drop (i + 1) steps) in
    let now = c.loop-step.solo.runtime in
    let next : suc i ≡ i + 1 = omega arith in
    let cut = drop-cons steps i s c.loop-step-test.true ∙ ap (λ (x : Step). x ∷ drop (suc i) steps) (sym c.step-item.is) ∙ ap (λ (k : ℕ). s ∷ drop k steps) next in
    let same = c.loop-step.invariant.net in
    record {
      net = c.in_ok-replay_step.ensures.net ∙ same;
      left = λ r defined.
          let here = subst (λ (ss : List Step). solo_from c.args.net.now now (firings_of ss) ≡ Some r) cut (c.loop-step.invariant.left r defined) in
          let there = subst (λ (n : Net). solo_from n now (firing_of s.event ++ rest) ≡ Some r) (sym same) here in
          subst (λ (n : Net). solo_from n c.replay_step.new.solo.runtime rest ≡ Some r) same (c.in_ok-replay_step.ensures.goes_on rest r there);
    }

pub returns : goal.returns
returns c =
    let steps = c.args.steps.now in
    let none : firings_of (drop c.loop-step.step-index steps) ≡ [] = ap firings_of (drop_of_length-le steps (omega (arith, c.loop-step-test.false))) in (
      c.loop-step.invariant.net,
      λ r defined.
          same_Some c.loop-step.solo.runtime r (subst (λ (fs : List (ℕ × ℕ)). solo_from c.args.net.now c.loop-step.solo.runtime fs ≡ Some r) none (c.loop-step.invariant.left r defined)),
    )
