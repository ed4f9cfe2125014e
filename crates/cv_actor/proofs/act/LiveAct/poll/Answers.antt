use Rattle.cv_actor.proofs.Sights.{poll_fires, poll_holds, foresees_firing, foresees_reading}
use Rattle.cv_actor.proofs.act.LiveAct.poll.Goals as goal

pub fire-requires-clause-fires : goal.fire-requires-clause-fires
fire-requires-clause-fires c = poll_fires c.args.self.now c.args.now c.in-Fires.action (foresees_firing _ _ c.in-Fires.ensures)

pub peek-requires : goal.peek-requires
peek-requires c = poll_holds c.args.self.now c.args.now c.in-Reads.port c.in-Reads.count (foresees_reading _ _ _ c.in-Reads.ensures)
