use Rattle.std.proofs.Common.{◌≡◌, ◌<◌, ◌∙◌, length, sym, arith}
use Rattle.cv_solo.specs.Machine.{Machine}
use Rattle.cv_solo.proofs.Rounds.{turn_some, turn_none}
use Rattle.cv_solo.proofs.solo.Solo.round.Goals as goal
use Rattle.cv_solo.proofs.solo.Solo.round.Goals.{then-is_some, else-is_some}

pub loop-actor-preserved : goal.loop-actor-preserved
loop-actor-preserved c =
    let start : Machine = c.args.self.now in
    let old : Machine = c.loop-actor.self in
    let new : Machine = c.turn.new.self in
    let same : old.net ≡ start.net = c.loop-actor.invariant.net in
    let within : c.loop-actor.actor < length start.net.actors = omega (arith, c.loop-actor-test.true, c.actor_count-actor-end.ensures) in
    let fewer : c.loop-actor.fired < c.args.most = omega (arith, c.if-fired-most.false, c.loop-actor.invariant.so_far.few) in
    elim c.if-is_some.branch [
      | then-is_some w ↦ record {
        net = c.in_ok-turn.ensures.net ∙ same;
        so_far = turn_some start.net start.runtime old new c.in_ok-turn.field-0 c.loop-actor.fired c.if-is_some.fired c.args.most c.loop-actor.actor same within fewer c.loop-actor.invariant.so_far c.in_ok-turn.ensures.first c.in_ok-turn.ensures.fired (sym c.is_some.ensures ∙ w.if-is_some.true) w.fired-is;
      }
      | else-is_some w ↦ record {
        net = c.in_ok-turn.ensures.net ∙ same;
        so_far = turn_none start.net start.runtime old new c.in_ok-turn.field-0 c.loop-actor.fired c.if-is_some.fired c.args.most c.loop-actor.actor same within c.loop-actor.invariant.so_far c.in_ok-turn.ensures.first c.in_ok-turn.ensures.fired (sym c.is_some.ensures ∙ w.if-is_some.false) w.fired-is;
      }
    ]
