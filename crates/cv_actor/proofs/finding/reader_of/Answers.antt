use Rattle.std.proofs.Common.{◌∙◌, sym}
use Rattle.cv_actor.proofs.Found.{found_here, not_here}
use Rattle.cv_actor.proofs.finding.reader_of.Goals as goal

pub returns-then-eq : goal.returns-then-eq
returns-then-eq c =
    sym (found_here c.args.conn c.loop-number.number c.args.out.now.readers c.in-Some.reader (sym c.in-Some.ensures.value) (sym c.if-eq.ensures)) ∙ c.loop-number.invariant

pub loop-number-preserved : goal.loop-number-preserved
loop-number-preserved c =
    not_here c.args.conn c.loop-number.number c.args.out.now.readers c.in-Some.reader (sym c.in-Some.ensures.value) (sym c.if-eq.ensures) ∙ c.loop-number.invariant
