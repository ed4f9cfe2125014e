-- An actor changes at its owner: owners and attempts don't see what it becomes.
use Rattle.std.proofs.Common.{◌≡◌, ℕ, Option, Some, arith}
use Rattle.std.proofs.lemmas.Grind.{common_steps}
use Rattle.cv_token.specs.declared.identifiers.ActorId.{ActorId}
use Rattle.cv_protocol.specs.declared.moving.Judged.{Judged}
use Rattle.cv_protocol.specs.Actors.{Actor}
use Rattle.cv_protocol.specs.Owners.{Owners, At, Between}
use Rattle.cv_handover.specs.Agree.{Living, Copy, History, IsOpen, Owned, Kept}
use Rattle.cv_handover.proofs.Places.{set, set_cases, put, put_cases}

-- the history with another copy of the actor
abbrev pub with_copy : History → ActorId → Actor → History
with_copy h a x = record h { copy = set h.copy a x }

module _ (live : ℕ → ActorId → Option Living) (owner : Owners) (h : History) (a : ActorId) (i : ℕ) (x : Actor) (here : owner a ≡ At i) where
  touch_live_at : Owned live owner h → (b : ActorId) (k : ℕ) → owner b ≡ At k → put live i a (Some (record { actor = x; attempt = h.attempt a })) k b ≡ Some (record { actor = set h.copy a x b; attempt = h.attempt b })
  touch_live_at o b k is = grind (arith, common_steps, put_cases live i a (Some (record { actor = x; attempt = h.attempt a })) k b, set_cases h.copy a x b, o.live_at b k is, here)

  touch_live_only : Owned live owner h → (b : ActorId) (k : ℕ) (l : Living) → put live i a (Some (record { actor = x; attempt = h.attempt a })) k b ≡ Some l → owner b ≡ At k
  touch_live_only o b k l is = grind (arith, common_steps, put_cases live i a (Some (record { actor = x; attempt = h.attempt a })) k b, o.live_only b k l, here)

  touch_between : Owned live owner h → (b : ActorId) (k j e : ℕ) → owner b ≡ Between k j e → IsOpen (with_copy h a x) b k j e
  touch_between o b k j e is =
      let q = o.between b k j e is in
      record {
        newest = q.newest;
        tried = q.tried;
        source = q.source;
        target = q.target;
        state = grind (arith, common_steps, set_cases h.copy a x b, q.state, here, is);
        unaccepted = q.unaccepted;
      }

  pub owned_touch : Owned live owner h → Owned (put live i a (Some (record { actor = x; attempt = h.attempt a }))) owner (with_copy h a x)
  owned_touch o = record {
    live_at = touch_live_at o;
    live_only = touch_live_only o;
    between = touch_between o;
    settled = o.settled;
    absent = o.absent;
    past_judged = o.past_judged;
  }

-- copies and records speak of the history of moves alone
pub kept_touch : (frozen : ℕ → ActorId → Option Copy) (judged : ℕ → ActorId → Option Judged) (owner : Owners) (h : History) (a : ActorId) (x : Actor) → Kept frozen judged owner h → Kept frozen judged owner (with_copy h a x)
kept_touch frozen judged owner h a x q = record {
  frozen_ok =
      λ k b f e.
      let c = q.frozen_ok k b f e in
      record { tried = c.tried; source = c.source; target = c.target; state = c.state; owned = c.owned };
  judged_ok =
      λ k b j v e g.
      let c = q.judged_ok k b j v e g in
      record { tried = c.tried; target = c.target; verdict = c.verdict };
  judged_high = q.judged_high;
}
