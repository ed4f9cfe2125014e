use Rattle.std.proofs.Common.{◌≡◌, ◌++◌, true, take, drop}
use Rattle.cv_protocol.specs.Poll.{with_given}
use Rattle.cv_actor.specs.Room.{has_room}
use Rattle.cv_actor.proofs.firing.write_given.Given as goal

abbrev pub invariant-loop-port : goal.invariant-loop-port
invariant-loop-port l = record {
  room : has_room l.left (drop l.port l.outs) ≡ true;
  whole : take l.port l.outs ++ with_given l.left (drop l.port l.outs) ≡ with_given l.fn.out l.fn.outs;
}
