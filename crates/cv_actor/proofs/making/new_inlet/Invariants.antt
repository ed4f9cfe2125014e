use Rattle.std.proofs.Common.{◌≡◌, drop}
use Rattle.cv_protocol.specs.Travel.{inlet_of}
use Rattle.cv_actor.proofs.making.new_inlet.Given as goal

abbrev pub invariant-loop-place : goal.invariant-loop-place
invariant-loop-place l = inlet_of l.id.app l.place (drop l.place l.connections) l.id.actor l.port ≡ inlet_of l.id.app 0 l.connections l.id.actor l.port
