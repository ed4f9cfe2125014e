use Rattle.std.proofs.Common.{◌<◌, Ok, length, ap, subst, ◌∙◌, arith}
use Rattle.cv_protocol.specs.declared.event.Event.TheVariants as event
use Rattle.cv_protocol.specs.declared.event.Sent.TheVariants as sent
use Rattle.cv_node.specs.Counts.{journal_length}
use Rattle.cv_node.specs.Journalled.{IsReplay, Journalled, MakesStep}
use Rattle.cv_alone.specs.Going.{is_prompt}
use Rattle.cv_alone.specs.Resting.{AllWait}
use Rattle.cv_alone.proofs.Sweeps.{not_shorter}
use Rattle.cv_alone.proofs.Turns.{at_rest, changes, quiet, ticks}
use Rattle.cv_alone.proofs.alone.turn.Goals as goal
use Rattle.cv_alone.proofs.alone.turn.Goals.{then-passed-via-then-passed, then-passed-via-else-passed+then-swept}

pub returns-in_default : goal.returns-in_default
returns-in_default c =
    let passed = c.in_ok-passed.ensures.none (ap Ok c.if-passed.false) in
    let swept = c.in_ok-swept.ensures.none c.if-swept.false in
    let waits = subst (λ (j : Journalled). AllWait j.state c.args.actors c.in_ok-swept.swept.due) passed.0 swept.2 in
    (swept.0 ∙ passed.0, quiet c.args.node.now.state c.args.actors c.args.connections c.in_ok-swept.swept.due c.in_default.is passed.1 waits)

pub returns-then-passed : goal.returns-then-passed
returns-then-passed c =
    let passes = c.in_ok-passed.ensures.ok in
    let polls = c.in_ok-swept.ensures.ok in
    let first = not_shorter is_prompt c.args.node.now c.pass_all.new.node 0 passes in
    let second = not_shorter is_prompt c.pass_all.new.node c.poll_all.new.node c.in_ok-swept.swept.fired polls.1 in
    let longer : length c.args.node.now.entries < length c.poll_all.new.node.entries =
    elim c.then-passed.branch [
      | then-passed-via-then-passed w ↦ (let m = c.in_ok-passed.ensures.more (ap Ok w.if-passed.true) in omega (arith, m, second))
      | then-passed-via-else-passed+then-swept w ↦ (let m = c.in_ok-swept.ensures.more w.if-swept.true in omega (arith, m, first))
    ] in
    changes c.args.node.now c.pass_all.new.node c.poll_all.new.node c.args.actors c.args.connections c.args.most c.in_ok-swept.swept.fired passes polls.1 polls.0 longer c.in_ok-swept.ensures.ends

pub returns : goal.returns
returns c =
    let passed = c.in_ok-passed.ensures.none (ap Ok c.if-passed.false) in
    let swept = c.in_ok-swept.ensures.none c.if-swept.false in
    let same = swept.0 ∙ passed.0 in
    let waits = subst (λ (j : Journalled). AllWait j.state c.args.actors c.in_ok-swept.swept.due) passed.0 swept.2 in
    let rest = at_rest c.args.node.now.state c.args.actors c.args.connections c.in_ok-swept.swept.due passed.1 waits in
    let steps = subst (λ (j : Journalled). MakesStep j (event.Tick c.in-Some.moment) sent.Nothing c.tick.new.node) same c.in_ok-tick.ensures.ticked in
    let few = subst (λ (j : Journalled). length j.entries < journal_length) same c.in_ok-tick.ensures.few in
    let kept = subst (λ (j : Journalled). IsReplay j.base j.state j.entries) same c.in_ok-tick.ensures.replays in
    ticks c.args.node.now c.tick.new.node c.args.actors c.args.connections c.args.most c.in-Some.moment c.requires steps few kept rest
