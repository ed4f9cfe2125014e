use Rattle.std.proofs.Common.{◌≡◌, ◌-◌, ◌++◌}
use Rattle.cv_protocol.specs.Travel.{inlets_of}
use Rattle.cv_actor.proofs.making.new_inlets.Given as goal

abbrev pub invariant-loop-port : goal.invariant-loop-port
invariant-loop-port l = l.ins.items ++ inlets_of l.id.app l.connections l.id.actor l.port (l.count - l.port) ≡ inlets_of l.id.app l.connections l.id.actor 0 l.count
