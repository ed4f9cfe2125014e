use Rattle.std.proofs.Common.{sym}
use Rattle.cv_kinds.proofs.States.{uneven}
use Rattle.cv_kinds.proofs.sorts.are_slots.Goals as goal

pub returns-then-slots-state : goal.returns-then-slots-state
returns-then-slots-state c = sym (uneven c.args.args.now c.args.slots.now c.args.state.now c.if-slots-state.true)
