-- A frozen copy goes: it is released, or its move was refused and the actor lives at its node again, or is removed.
use Rattle.std.proofs.Common.{◌≡◌, ◌≢◌, ◌⊎◌, inl, inr, ℕ, ◌<◌, true, Option, Some, None, is_some, sym, ap, ◌∙◌, arith}
use Rattle.std.proofs.lemmas.Grind.{common_steps}
use Rattle.std.proofs.lemmas.Option.{same_Some, none-some as none_some}
use Rattle.cv_token.specs.declared.identifiers.ActorId.{ActorId}
use Rattle.cv_protocol.specs.declared.frame.Verdict.{Verdict}
use Rattle.cv_protocol.specs.declared.frame.Verdict.TheVariants as verdict
use Rattle.cv_protocol.specs.declared.moving.Judged.{Judged}
use Rattle.cv_protocol.specs.Actors.{Actor}
use Rattle.cv_protocol.specs.NodeState.{judged_attempt}
use Rattle.cv_protocol.specs.Owners.{Owner, Owners, Nowhere, At, Between}
use Rattle.cv_handover.specs.Agree.{Living, Copy, History, WasTried, IsOpen, IsCopy, Owned, Kept}
use Rattle.cv_handover.proofs.Places.{set, set_cases, put, put_cases}

-- 1. A copy is released, and the record may rise

pub kept_unfrozen : (frozen : ℕ → ActorId → Option Copy) (judged : ℕ → ActorId → Option Judged) (owner : Owners) (h : History) (i : ℕ) (a : ActorId) → Kept frozen judged owner h → Kept (put frozen i a None) judged owner h
kept_unfrozen frozen judged owner h i a q = record {
  frozen_ok =
      λ k b f is.
      elim (put_cases frozen i a None k b) [
        | inl s ↦ absurd (none_some f (sym s.2 ∙ is))
        | inr s ↦ q.frozen_ok k b f (sym s.1 ∙ is)
      ];
  judged_ok = q.judged_ok;
  judged_high = q.judged_high;
}

pub kept_noted : (frozen : ℕ → ActorId → Option Copy) (judged : ℕ → ActorId → Option Judged) (owner : Owners) (h : History) (i : ℕ) (a : ActorId) (e : ℕ) → judged_attempt (judged i a) < e → Kept frozen judged owner h → Kept frozen (put judged i a (Some (record { attempt = e; verdict = None }))) owner h
kept_noted frozen judged owner h i a e above q = record {
  frozen_ok = q.frozen_ok;
  judged_ok =
      λ k b r v is says.
      elim (put_cases judged i a (Some (record { attempt = e; verdict = None })) k b) [
        | inl s ↦ absurd (none_some v (ap (λ (j : Judged). j.verdict) (same_Some _ r (sym s.2 ∙ is)) ∙ says))
        | inr s ↦ q.judged_ok k b r v (sym s.1 ∙ is) says
      ];
  judged_high =
      λ b d tried some.
      grind (arith, common_steps, put_cases judged i a (Some (record { attempt = e; verdict = None })) (h.moves b d).target b, q.judged_high b d tried some, above);
}

-- 2. A refused move

module _ (live : ℕ → ActorId → Option Living) (frozen : ℕ → ActorId → Option Copy) (judged : ℕ → ActorId → Option Judged) (owner : Owners) (h : History) (i : ℕ) (a : ActorId) (f : Copy) (v : Verdict) (o : Owned live owner h) (q : Kept frozen judged owner h) (stands : frozen i a ≡ Some f) (says : (h.moves a f.attempt).verdict ≡ Some v) (refused : v ≢ verdict.Accepted) where
  -- a copy whose move was refused is the owner's
  pub is_going : owner a ≡ Between i f.target f.attempt
  is_going =
      elim (q.frozen_ok i a f stands).owned [
        | inl way ↦ way
        | inr accepted ↦ absurd (refused (same_Some v verdict.Accepted (sym says ∙ accepted)))
      ]

  going_newest : f.attempt ≡ h.attempt a
  going_newest = (o.between a i f.target f.attempt is_going).newest

  pub copy_stays : f.actor ≡ h.copy a
  copy_stays = sym (q.frozen_ok i a f stands).state ∙ (o.between a i f.target f.attempt is_going).state

  refusal_stands : is_some (h.moves a f.attempt).verdict ≡ true
  refusal_stands = ap is_some says

  no_way : (x : Owner) → ((k t d : ℕ) → x ≡ Between k t d → ⊥) → (b : ActorId) (k t d : ℕ) → set owner a x b ≡ Between k t d → ((b ≡ a) → ⊥) × (owner b ≡ Between k t d)
  no_way x apart b k t d is =
      elim (set_cases owner a x b) [
        | inl s ↦ absurd (apart k t d (sym s.1 ∙ is))
        | inr s ↦ (s.0, sym s.1 ∙ is)
      ]

  open_beside : (x : Actor) (b : ActorId) (k t d : ℕ) → ((b ≡ a) → ⊥) → IsOpen h b k t d → IsOpen (record h { copy = set h.copy a x }) b k t d
  open_beside x b k t d apart w = record {
    newest = w.newest;
    tried = w.tried;
    source = w.source;
    target = w.target;
    state = grind (arith, common_steps, set_cases h.copy a x b, apart, w.state);
    unaccepted = w.unaccepted;
  }

  all_judged : (d : ℕ) → WasTried h a d → is_some (h.moves a d).verdict ≡ true
  all_judged d tried = grind (arith, common_steps, o.past_judged a d, going_newest, refusal_stands, tried)

  at_no_way : (k t d : ℕ) → At i ≡ Between k t d → ⊥
  at_no_way k t d p = cc

  nowhere_no_way : (k t d : ℕ) → Nowhere ≡ Between k t d → ⊥
  nowhere_no_way k t d p = cc

  -- the actor lives here again, as this
  module _ (x : Actor) where
    pub owned_resume : Owned (put live i a (Some (record { actor = x; attempt = f.attempt }))) (set owner a (At i)) (record h { copy = set h.copy a x })
    owned_resume = record {
      live_at = λ b k is. grind (arith, common_steps, put_cases live i a (Some (record { actor = x; attempt = f.attempt })) k b, set_cases h.copy a x b, set_cases owner a (At i) b, o.live_at b k, going_newest, is);
      live_only = λ b k l is. grind (arith, common_steps, put_cases live i a (Some (record { actor = x; attempt = f.attempt })) k b, set_cases owner a (At i) b, o.live_only b k l, is_going, is);
      between = λ b k t d is. let w = no_way (At i) at_no_way b k t d is in open_beside x b k t d w.0 (o.between b k t d w.1);
      settled = λ b k d is tried. grind (arith, common_steps, set_cases owner a (At i) b, o.settled b k d, all_judged d, tried, is);
      absent = λ b d is tried. grind (arith, common_steps, set_cases owner a (At i) b, o.absent b d, tried, is);
      past_judged = o.past_judged;
    }

  -- the actor is removed
  pub owned_remove : Owned live (set owner a Nowhere) h
  owned_remove = record {
    live_at = λ b k is. grind (arith, common_steps, set_cases owner a Nowhere b, o.live_at b k, is);
    live_only = λ b k l is. grind (arith, common_steps, set_cases owner a Nowhere b, o.live_only b k l is, is_going);
    between = λ b k t d is. let w = no_way Nowhere nowhere_no_way b k t d is in o.between b k t d w.1;
    settled = λ b k d is tried. grind (arith, common_steps, set_cases owner a Nowhere b, o.settled b k d, tried, is);
    absent = λ b d is tried. grind (arith, common_steps, set_cases owner a Nowhere b, o.absent b d, all_judged d, tried, is);
    past_judged = o.past_judged;
  }

  -- the copy is gone, so every other copy of the actor was accepted
  owned_still : (x : Owner) (k : ℕ) (b : ActorId) (g : Copy) → ((k ≡ i) → (b ≡ a) → ⊥) → IsCopy owner h b k g → (set owner a x b ≡ Between k g.target g.attempt) ⊎ ((h.moves b g.attempt).verdict ≡ Some verdict.Accepted)
  owned_still x k b g apart c =
      elim c.owned [
        | inl w ↦
            elim (set_cases owner a x b) [
              | inl s ↦
                  let way : Between i f.target f.attempt ≡ Between k g.target g.attempt = sym is_going ∙ ap owner (sym s.0) ∙ w in
                  absurd (apart (grind (arith, common_steps, way)) s.0)
              | inr s ↦ inl (s.1 ∙ w)
            ]
        | inr w ↦ inr w
      ]

  pub kept_return : (x : Owner) (y : Actor) → Kept (put frozen i a None) judged (set owner a x) (record h { copy = set h.copy a y })
  kept_return x y = record {
    frozen_ok =
        λ k b g is.
        elim (put_cases frozen i a None k b) [
          | inl s ↦ absurd (none_some g (sym s.2 ∙ is))
          | inr s ↦
              let c = q.frozen_ok k b g (sym s.1 ∙ is) in
              record { tried = c.tried; source = c.source; target = c.target; state = c.state; owned = owned_still x k b g s.0 c }
        ];
    judged_ok = λ k b r w is said. let c = q.judged_ok k b r w is said in record { tried = c.tried; target = c.target; verdict = c.verdict };
    judged_high = q.judged_high;
  }
