use Rattle.std.proofs.Common.{append_assoc}
use Rattle.cv_actor.proofs.Starts.{outs_next}
use Rattle.cv_actor.proofs.making.new_outs.Goals as goal

pub loop-port-preserved : goal.loop-port-preserved
loop-port-preserved c =
    let next = outs_next c.args.id.app c.args.connections.now c.args.id.actor c.loop-port.port c.args.count c.loop-port-test.true in
    rw (c.in_ok-push.ensures.items, append_assoc, c.in_ok-new.ensures, c.in_ok-readers.ensures, ← next) c.loop-port.invariant
