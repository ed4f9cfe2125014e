use Rattle.std.proofs.Common.{◌≡◌, ◌≤◌, ◌++◌, drop, length}
use Rattle.cv_protocol.specs.Travel.{readers_of}
use Rattle.cv_actor.proofs.making.new_readers.Given as goal

abbrev pub invariant-loop-place : goal.invariant-loop-place
invariant-loop-place l = record {
  few : length l.readers ≤ l.place;
  whole : l.readers ++ readers_of l.id.app l.place (drop l.place l.connections) l.id.actor l.port ≡ readers_of l.id.app 0 l.connections l.id.actor l.port;
}
