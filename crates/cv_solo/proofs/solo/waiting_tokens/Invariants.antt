use Rattle.std.proofs.Common.{◌≡◌, ◌<◌, drop, length}
use Rattle.std.specs.List.{All}
use Rattle.cv_solo.specs.OneRuntime.{waiting}
use Rattle.cv_solo.proofs.Touched.{waiting_at}
use Rattle.cv_solo.proofs.solo.waiting_tokens.Given as goal

abbrev pub invariant-loop-place : goal.invariant-loop-place
invariant-loop-place l = record {
  left : waiting_at l.connections (drop l.place-index l.places) l.streams l.actor l.port ≡ waiting l.connections l.streams l.actor l.port;
  within : All (λ place. place < length l.connections) l.places;
}
