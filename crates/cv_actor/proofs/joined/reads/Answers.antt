use Rattle.std.proofs.Common.{◌∙◌, sym}
use Rattle.cv_actor.proofs.Found.{read_here, unread_here}
use Rattle.cv_actor.proofs.joined.reads.Goals as goal

pub returns-then-eq : goal.returns-then-eq
returns-then-eq c =
    sym (read_here c.args.actor c.loop-number.number c.args.out.now.readers c.in-Some.reader (sym c.in-Some.ensures.value) (sym c.if-eq.ensures)) ∙ c.loop-number.invariant

pub loop-number-preserved : goal.loop-number-preserved
loop-number-preserved c =
    unread_here c.args.actor c.loop-number.number c.args.out.now.readers c.in-Some.reader (sym c.in-Some.ensures.value) (sym c.if-eq.ensures) ∙ c.loop-number.invariant
