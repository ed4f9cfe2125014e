use Rattle.std.proofs.Common.{◌≡◌, Some, slice_get, ap, sym, subst}
use Rattle.std.specs.Option.{option_map}
use Rattle.std.specs.FinMap as map
use Rattle.cv_protocol.specs.NodeState.{Moves}
use Rattle.cv_state.specs.Leaving.{frozen_place}
use Rattle.cv_state.proofs.Entries.{entry_found, has_value}
use Rattle.cv_state.proofs.moves.Moves.frozen_at.Goals as goal

pub returns-in_err-copy : goal.returns-in_err-copy
returns-in_err-copy c = absurd (has_value c.self.inside.frozen.map c.args.place c.in_ok-actor.actor c.in_ok-actor.ensures c.in_err-copy.ensures)

pub returns : goal.returns
returns c =
    let copy = c.in_ok-copy.copy.now in
    let entry = entry_found c.self.inside.frozen.map c.args.place c.in_ok-actor.actor copy c.in_ok-actor.ensures c.in_ok-copy.ensures in
    subst (λ (m : Moves). Some (c.in_ok-actor.actor, copy.attempt, copy.target) ≡ option_map frozen_place (slice_get (map.entries m.frozen) c.args.place)) c.self.view_is (sym (ap (option_map frozen_place) entry))
