use Rattle.std.proofs.Common.{◌≡◌, ◌≤◌, ◌++◌, reverse, length}
use Rattle.std.specs.Vec.{vec_capacity}
use Rattle.cv_queue.proofs.slots.with_room.Given as goal

abbrev pub invariant-loop-token : goal.invariant-loop-token
invariant-loop-token l =
    (l.fn.list ≡ l.list ++ reverse l.slots.items) × (l.cap ≤ vec_capacity l.slots)

abbrev pub decreases-loop-token : goal.decreases-loop-token
decreases-loop-token l = length l.list
