use Rattle.cv_actor.proofs.Settled.{elsewhere}
use Rattle.cv_actor.proofs.travel.rewind_at.Goals as goal

pub returns-then-ne : goal.returns-then-ne
returns-then-ne c = elsewhere c.args.out.now c.args.number c.args.actor c.in-Some.reader c.in-Some.ensures.value c.if-ne.ensures
