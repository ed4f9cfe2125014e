use Rattle.std.proofs.Common.{◌≡◌, ◌-◌, ◌++◌}
use Rattle.cv_protocol.specs.Travel.{outs_of}
use Rattle.cv_actor.proofs.making.new_outs.Given as goal

abbrev pub invariant-loop-port : goal.invariant-loop-port
invariant-loop-port l = l.outs.items ++ outs_of l.id.app l.connections l.id.actor l.port (l.count - l.port) ≡ outs_of l.id.app l.connections l.id.actor 0 l.count
