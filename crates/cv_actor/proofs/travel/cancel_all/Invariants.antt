use Rattle.std.proofs.Common.{◌≡◌, ◌++◌, map, take, drop}
use Rattle.cv_protocol.specs.Travel.{cancelled}
use Rattle.cv_actor.proofs.travel.cancel_all.Given as goal

abbrev pub invariant-loop-place : goal.invariant-loop-place
invariant-loop-place l = take l.place l.ins ++ map cancelled (drop l.place l.ins) ≡ map cancelled l.fn.ins
