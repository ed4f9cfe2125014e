use Rattle.std.proofs.Common.{sym}
use Rattle.cv_state.proofs.Entries.{has_value}
use Rattle.cv_state.proofs.Leaves.{kept_hint, left_hint}
use Rattle.cv_state.proofs.Local.{both_true, either_false, first_false}
use Rattle.cv_state.proofs.leaving.joined_hint.Goals as goal
use Rattle.cv_state.proofs.leaving.joined_hint.Goals.{else-ne-via-then-ne+else-is_joined, else-ne-via-else-ne}

pub returns-in_err-hint : goal.returns-in_err-hint
returns-in_err-hint c = absurd (has_value c.args.hints.now.map c.args.place c.in_ok-other.other c.in_ok-other.ensures c.in_err-hint.ensures)

pub returns-then-is_joined : goal.returns-then-is_joined
returns-then-is_joined c =
    kept_hint c.args.hints.now.map c.args.place c.args.actor c.args.live.now.actor c.in_ok-other.other c.in_ok-hint.hint.now c.in_ok-other.ensures c.in_ok-hint.ensures (both_true _ _ (sym c.if-ne.ensures) (sym c.if-is_joined.ensures))

pub returns-else-ne : goal.returns-else-ne
returns-else-ne c =
    left_hint c.args.hints.now.map c.args.place c.args.actor c.args.live.now.actor c.in_ok-other.other c.in_ok-hint.hint.now c.in_ok-other.ensures c.in_ok-hint.ensures (elim c.else-ne.branch [
      | else-ne-via-then-ne+else-is_joined w ↦ either_false _ _ (sym w.if-is_joined.ensures)
      | else-ne-via-else-ne w ↦ first_false _ _ (sym w.if-ne.ensures)
    ])
