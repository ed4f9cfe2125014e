use Rattle.std.proofs.Common.{◌<◌, ◌≤◌, ◌+◌, ℕ, Option, drop, length, ap, sym, ◌∙◌, subst, arith}
use Rattle.std.specs.FinMap as map
use Rattle.std.specs.FinMap.{len-entries}
use Rattle.cv_state.specs.Waking.{IsNextDue, first_wake}
use Rattle.cv_state.proofs.Wakes.{entry_next, entry_past, next_due_is}
use Rattle.cv_state.proofs.state.State.next_due.Goals as goal

pub loop-place-preserved : goal.loop-place-preserved
loop-place-preserved c =
    let s = c.args.self.now in
    let at = c.loop-place.place in
    let within : at < length (map.entries s.live) = omega (arith, len-entries s.live) in
    ap (λ (o : Option ℕ). first_wake s.now o (drop (at + 1) (map.entries s.live))) c.wake_at-found.ensures
    ∙ sym (entry_next s.now c.loop-place.found (map.entries s.live) at within)
    ∙ c.loop-place.invariant

pub returns : goal.returns
returns c =
    let s = c.args.self.now in
    let past : length (map.entries s.live) ≤ c.loop-place.place = omega (arith, len-entries s.live) in
    let found = sym c.loop-place.invariant ∙ entry_past s.now c.loop-place.found (map.entries s.live) c.loop-place.place past in
    subst (IsNextDue s) found (next_due_is s)
