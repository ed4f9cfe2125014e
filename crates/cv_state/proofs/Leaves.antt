-- The hints that travel.
use Rattle.std.proofs.Common.{◌≡◌, ℕ, true, false, if◌then◌else◌, slice_get, Some, None, ap, sym, ◌∙◌}
use Rattle.std.specs.FinMap as fin
use Rattle.std.specs.FinMap.{FinMap, entries}
use Rattle.cv_token.specs.declared.identifiers.ActorId.{ActorId}
use Rattle.cv_table.specs.Order.{actor_cmp}
use Rattle.cv_protocol.specs.declared.moving.Location.{Location}
use Rattle.cv_protocol.specs.Actors.{Actor}
use Rattle.cv_protocol.specs.Rows.{hint_of, is_joined}
use Rattle.cv_state.specs.Leaving.{joined_at}
use Rattle.cv_state.proofs.Entries.{entry_found}

-- whether the hint at a place is kept
pub kept_hint : (m : FinMap actor_cmp Location) (n : ℕ) (a : ActorId) (actor : Actor) (k : ActorId) (h : Location) → Some k ≡ slice_get (fin.keys m) n → Some h ≡ fin.get m k → is_joined a actor k ≡ true → Some (hint_of (k, h)) ≡ joined_at a actor (slice_get (entries m) n)
kept_hint m n a actor k h key value joined =
    sym (ap (joined_at a actor) (entry_found m n k h key value) ∙ ap (λ b. if b then Some (hint_of (k, h)) else None) joined)

pub left_hint : (m : FinMap actor_cmp Location) (n : ℕ) (a : ActorId) (actor : Actor) (k : ActorId) (h : Location) → Some k ≡ slice_get (fin.keys m) n → Some h ≡ fin.get m k → is_joined a actor k ≡ false → None ≡ joined_at a actor (slice_get (entries m) n)
left_hint m n a actor k h key value apart =
    sym (ap (joined_at a actor) (entry_found m n k h key value) ∙ ap (λ b. if b then Some (hint_of (k, h)) else None) apart)
