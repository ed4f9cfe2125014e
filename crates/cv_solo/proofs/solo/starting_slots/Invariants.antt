use Rattle.std.proofs.Common.{◌≡◌, map, take}
use Rattle.cv_kinds.specs.KindRow.{row_of}
use Rattle.cv_solo.proofs.solo.starting_slots.Given as goal

abbrev pub invariant-loop-actor : goal.invariant-loop-actor
invariant-loop-actor l = l.slots.items ≡ map (λ a. (row_of a.kind).start a.args) (take l.actor-index l.actors)
