use Rattle.std.proofs.Common.{◌≡◌, ◌≤◌, take}
use Rattle.std.specs.Vec.{vec_capacity}
use Rattle.cv_queue.proofs.slots.copy_with_room.Given as goal

abbrev pub invariant-loop-token : goal.invariant-loop-token
invariant-loop-token l =
    (l.slots.items ≡ take l.token-index l.tokens) × (l.cap ≤ vec_capacity l.slots)
