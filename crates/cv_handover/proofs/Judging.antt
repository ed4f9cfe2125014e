-- An attempt is judged by its target, once: refused, or accepted.
use Rattle.std.proofs.Common.{◌≡◌, ◌≢◌, ◌⊎◌, inl, inr, ℕ, ◌<◌, ◌≤◌, Bool, true, false, Option, Some, None, is_some, refl, sym, ap, subst, ◌∙◌, arith, true≢false}
use Rattle.std.proofs.lemmas.Grind.{common_steps}
use Rattle.std.proofs.lemmas.Option.{same_Some}
use Rattle.cv_token.specs.declared.identifiers.ActorId.{ActorId}
use Rattle.cv_protocol.specs.declared.frame.Verdict.{Verdict}
use Rattle.cv_protocol.specs.declared.frame.Verdict.TheVariants as verdict
use Rattle.cv_protocol.specs.declared.moving.Judged.{Judged}
use Rattle.cv_protocol.specs.Actors.{Actor}
use Rattle.cv_protocol.specs.NodeState.{judged_attempt}
use Rattle.cv_protocol.specs.Owners.{Owner, Owners, Nowhere, At, Between}
use Rattle.cv_handover.specs.Agree.{Living, Copy, Move, History, WasTried, IsOpen, IsCopy, IsVerdict, Owned, Kept}
use Rattle.cv_handover.proofs.Places.{set, set_cases, put, put_cases, note, note_cases}

-- the attempt has this verdict now
abbrev pub with_verdict_of : Move → Verdict → Move
with_verdict_of w v = record w { verdict = Some v }

abbrev pub with_judgement : History → ActorId → ℕ → Verdict → History
with_judgement h a e v = record h { moves = note h.moves a e (with_verdict_of (h.moves a e) v) }

owner_cases : (o : Owner) → (o ≡ Nowhere) ⊎ (((i : ℕ) × (o ≡ At i)) ⊎ ((i : ℕ) × (j : ℕ) × (e : ℕ) × (o ≡ Between i j e)))
owner_cases Nowhere = inl refl
owner_cases (At i) = inr (inl (i, refl))
owner_cases (Between i j e) = inr (inr (i, j, e, refl))

bool_cases : (b : Bool) → (b ≡ true) ⊎ (b ≡ false)
bool_cases true = inl refl
bool_cases false = inr refl

no_verdict : (v : Option Verdict) → is_some v ≡ false → v ≡ None
no_verdict None is = refl
no_verdict (Some v) is = absurd (true≢false is)

module _ (live : ℕ → ActorId → Option Living) (frozen : ℕ → ActorId → Option Copy) (judged : ℕ → ActorId → Option Judged) (owner : Owners) (h : History) (a : ActorId) (j e : ℕ) (o : Owned live owner h) (q : Kept frozen judged owner h) (tried : WasTried h a e) (target : (h.moves a e).target ≡ j) (above : judged_attempt (judged j a) < e) where
  -- an attempt above the record of its target was not judged
  pub unjudged : (h.moves a e).verdict ≡ None
  unjudged =
      elim (bool_cases (is_some (h.moves a e).verdict)) [
        | inl some ↦
            let high : e ≤ judged_attempt (judged j a) = subst (λ t. e ≤ judged_attempt (judged t a)) target (q.judged_high a e tried some) in
            absurd (omega (arith, high, above))
        | inr none ↦ no_verdict (h.moves a e).verdict none
      ]

  none_judged : is_some (h.moves a e).verdict ≡ true → ⊥
  none_judged some = true≢false (sym some ∙ ap is_some unjudged)

  -- it is the newest
  newest : e ≡ h.attempt a
  newest = grind (arith, common_steps, o.past_judged a e tried.0, none_judged, tried)

  -- so the actor is on its way by it
  pub is_coming : owner a ≡ Between (h.moves a e).source j e
  is_coming =
      elim (owner_cases (owner a)) [
        | inl nowhere ↦ absurd (none_judged (o.absent a e nowhere tried))
        | inr (inl here) ↦ absurd (none_judged (o.settled a here.0 e here.1 tried))
        | inr (inr way) ↦
            let w = o.between a way.0 way.1 way.2 way.3 in
            let n : e ≡ way.2 = newest ∙ sym w.newest in
            let s : (h.moves a e).source ≡ way.0 = ap (λ d. (h.moves a d).source) n ∙ w.source in
            let t : j ≡ way.1 = sym target ∙ ap (λ d. (h.moves a d).target) n ∙ w.target in
            way.3 ∙ sym (λ z. Between (s z) (t z) (n z))
      ]

  -- and its state is the one copy
  pub copy_comes : (h.moves a e).state ≡ h.copy a
  copy_comes = (o.between a (h.moves a e).source j e is_coming).state

  module _ (v : Verdict) where
    after : ActorId → ℕ → Move
    after = note h.moves a e (with_verdict_of (h.moves a e) v)

    -- the verdict is the only change of the history
    change : (b : ActorId) (d : ℕ) → ((b ≡ a) × (d ≡ e) × (note h.moves a e (with_verdict_of (h.moves a e) v) b d ≡ with_verdict_of (h.moves a e) v)) ⊎ (((b ≡ a) → (d ≡ e) → ⊥) × (note h.moves a e (with_verdict_of (h.moves a e) v) b d ≡ h.moves b d))
    change b d = note_cases h.moves a e (with_verdict_of (h.moves a e) v) b d

    pub same_source : (b : ActorId) (d : ℕ) → (note h.moves a e (with_verdict_of (h.moves a e) v) b d).source ≡ (h.moves b d).source
    same_source b d = grind (arith, common_steps, change b d)

    pub same_target : (b : ActorId) (d : ℕ) → (note h.moves a e (with_verdict_of (h.moves a e) v) b d).target ≡ (h.moves b d).target
    same_target b d = grind (arith, common_steps, change b d)

    pub same_state : (b : ActorId) (d : ℕ) → (note h.moves a e (with_verdict_of (h.moves a e) v) b d).state ≡ (h.moves b d).state
    same_state b d = grind (arith, common_steps, change b d)

    -- a verdict stays
    pub verdict_stays : (b : ActorId) (d : ℕ) (w : Verdict) → (h.moves b d).verdict ≡ Some w → (note h.moves a e (with_verdict_of (h.moves a e) v) b d).verdict ≡ Some w
    verdict_stays b d w is = grind (arith, common_steps, change b d, unjudged, is)

    still_judged : (b : ActorId) (d : ℕ) → is_some (h.moves b d).verdict ≡ true → is_some (note h.moves a e (with_verdict_of (h.moves a e) v) b d).verdict ≡ true
    still_judged b d is = grind (arith, common_steps, change b d, unjudged, is)

    -- the record is the attempt with the verdict
    judged_ok : (k : ℕ) (b : ActorId) (r : Judged) (w : Verdict) → put judged j a (Some (record { attempt = e; verdict = Some v })) k b ≡ Some r → r.verdict ≡ Some w → IsVerdict (with_judgement h a e v) b r.attempt k w
    judged_ok k b r w is says =
        elim (put_cases judged j a (Some (record { attempt = e; verdict = Some v })) k b) [
          | inl s ↦
              let c : record { attempt = e; verdict = Some v } ≡ r = same_Some _ r (sym s.2 ∙ is) in
              record {
                tried = grind (arith, common_steps, s, c, tried);
                target = grind (arith, common_steps, same_target b r.attempt, s, c, target);
                verdict = grind (arith, common_steps, change b r.attempt, s, c, says);
              }
          | inr s ↦
              let c = q.judged_ok k b r w (sym s.1 ∙ is) says in
              record {
                tried = c.tried;
                target = same_target b r.attempt ∙ c.target;
                verdict = verdict_stays b r.attempt w c.verdict;
              }
        ]

    judged_high : (b : ActorId) (d : ℕ) → WasTried h b d → is_some (note h.moves a e (with_verdict_of (h.moves a e) v) b d).verdict ≡ true → d ≤ judged_attempt (put judged j a (Some (record { attempt = e; verdict = Some v })) (note h.moves a e (with_verdict_of (h.moves a e) v) b d).target b)
    judged_high b d old some =
        subst (λ t. d ≤ judged_attempt (put judged j a (Some (record { attempt = e; verdict = Some v })) t b)) (sym (same_target b d)) (elim (change b d) [
          | inl s ↦ grind (arith, common_steps, put_cases judged j a (Some (record { attempt = e; verdict = Some v })) (h.moves b d).target b, s, target)
          | inr s ↦ grind (arith, common_steps, put_cases judged j a (Some (record { attempt = e; verdict = Some v })) (h.moves b d).target b, q.judged_high b d old (ap (λ (w : Move). is_some w.verdict) (sym s.1) ∙ some), above)
        ])

    module _ (refused : v ≢ verdict.Accepted) where
      open_still : (b : ActorId) (k t d : ℕ) → IsOpen h b k t d → IsOpen (with_judgement h a e v) b k t d
      open_still b k t d w = record {
        newest = w.newest;
        tried = w.tried;
        source = same_source b d ∙ w.source;
        target = same_target b d ∙ w.target;
        state = same_state b d ∙ w.state;
        unaccepted =
            λ y.
            elim (change b d) [
              | inl s ↦ refused (same_Some v verdict.Accepted (sym (ap (λ (m : Move). m.verdict) s.2) ∙ y))
              | inr s ↦ w.unaccepted (sym (ap (λ (m : Move). m.verdict) s.1) ∙ y)
            ];
      }

      pub owned_refuse : Owned live owner (with_judgement h a e v)
      owned_refuse = record {
        live_at = o.live_at;
        live_only = o.live_only;
        between = λ b k t d is. open_still b k t d (o.between b k t d is);
        settled = λ b i d is old. still_judged b d (o.settled b i d is old);
        absent = λ b d is old. still_judged b d (o.absent b d is old);
        past_judged = λ b d low high. still_judged b d (o.past_judged b d low high);
      }

      copy_still : (k : ℕ) (b : ActorId) (f : Copy) → IsCopy owner h b k f → IsCopy owner (with_judgement h a e v) b k f
      copy_still k b f c = record {
        tried = c.tried;
        source = same_source b f.attempt ∙ c.source;
        target = same_target b f.attempt ∙ c.target;
        state = same_state b f.attempt ∙ c.state;
        owned = elim c.owned [ inl w ↦ inl w | inr w ↦ inr (verdict_stays b f.attempt verdict.Accepted w) ];
      }

      pub kept_refuse : Kept frozen (put judged j a (Some (record { attempt = e; verdict = Some v }))) owner (with_judgement h a e v)
      kept_refuse = record {
        frozen_ok = λ k b f is. copy_still k b f (q.frozen_ok k b f is);
        judged_ok = judged_ok;
        judged_high = judged_high;
      }

  -- the actor comes to live at its target, as this
  module _ (x : Actor) where
    accepted : History
    accepted = record (with_judgement h a e verdict.Accepted) { copy = set h.copy a x }

    here_now : (b : ActorId) (k : ℕ) → set owner a (At j) b ≡ At k → put live j a (Some (record { actor = x; attempt = e })) k b ≡ Some (record { actor = set h.copy a x b; attempt = h.attempt b })
    here_now b k is = grind (arith, common_steps, put_cases live j a (Some (record { actor = x; attempt = e })) k b, set_cases h.copy a x b, set_cases owner a (At j) b, o.live_at b k, newest, is)

    only_here : (b : ActorId) (k : ℕ) (l : Living) → put live j a (Some (record { actor = x; attempt = e })) k b ≡ Some l → set owner a (At j) b ≡ At k
    only_here b k l is = grind (arith, common_steps, put_cases live j a (Some (record { actor = x; attempt = e })) k b, set_cases owner a (At j) b, o.live_only b k l, is_coming, is)

    open_beside : (b : ActorId) (k t d : ℕ) → set owner a (At j) b ≡ Between k t d → IsOpen (record (with_judgement h a e verdict.Accepted) { copy = set h.copy a x }) b k t d
    open_beside b k t d is =
        elim (set_cases owner a (At j) b) [
          | inl s ↦ absurd (at_is_no_way (sym s.1 ∙ is))
          | inr s ↦
              let w = o.between b k t d (sym s.1 ∙ is) in
              let c = note_cases h.moves a e (with_verdict_of (h.moves a e) verdict.Accepted) b d in
              record {
                newest = w.newest;
                tried = w.tried;
                source = grind (arith, common_steps, c, s, w.source);
                target = grind (arith, common_steps, c, s, w.target);
                state = grind (arith, common_steps, c, s, set_cases h.copy a x b, w.state);
                unaccepted = λ y. w.unaccepted (grind (arith, common_steps, c, s, y));
              }
        ]
      where
        at_is_no_way : At j ≡ Between k t d → ⊥
        at_is_no_way p = cc

    all_judged : (b : ActorId) (k d : ℕ) → set owner a (At j) b ≡ At k → WasTried h b d → is_some (note h.moves a e (with_verdict_of (h.moves a e) verdict.Accepted) b d).verdict ≡ true
    all_judged b k d is old = grind (arith, common_steps, set_cases owner a (At j) b, note_cases h.moves a e (with_verdict_of (h.moves a e) verdict.Accepted) b d, o.settled b k d, o.past_judged b d, newest, old, is)

    pub owned_accept : Owned (put live j a (Some (record { actor = x; attempt = e }))) (set owner a (At j)) (record (with_judgement h a e verdict.Accepted) { copy = set h.copy a x })
    owned_accept = record {
      live_at = here_now;
      live_only = only_here;
      between = open_beside;
      settled = all_judged;
      absent = λ b d is old. still_judged verdict.Accepted b d (o.absent b d (grind (arith, common_steps, set_cases owner a (At j) b, is)) old);
      past_judged = λ b d low high. still_judged verdict.Accepted b d (o.past_judged b d low high);
    }

    -- the source's copy was accepted; other copies of the actor were accepted before
    owned_copy : (k : ℕ) (b : ActorId) (f : Copy) → IsCopy owner h b k f → (set owner a (At j) b ≡ Between k f.target f.attempt) ⊎ ((note h.moves a e (with_verdict_of (h.moves a e) verdict.Accepted) b f.attempt).verdict ≡ Some verdict.Accepted)
    owned_copy k b f c =
        elim c.owned [
          | inl w ↦
              elim (set_cases owner a (At j) b) [
                | inl s ↦
                    let way : Between (h.moves a e).source j e ≡ Between k f.target f.attempt = sym is_coming ∙ ap owner (sym s.0) ∙ w in
                    inr (grind (arith, common_steps, note_cases h.moves a e (with_verdict_of (h.moves a e) verdict.Accepted) b f.attempt, s, way))
                | inr s ↦ inl (s.1 ∙ w)
              ]
          | inr w ↦ inr (verdict_stays verdict.Accepted b f.attempt verdict.Accepted w)
        ]

    pub kept_accept : Kept frozen (put judged j a (Some (record { attempt = e; verdict = Some verdict.Accepted }))) (set owner a (At j)) (record (with_judgement h a e verdict.Accepted) { copy = set h.copy a x })
    kept_accept = record {
      frozen_ok =
          λ k b f is.
          let c = q.frozen_ok k b f is in
          record {
            tried = c.tried;
            source = same_source verdict.Accepted b f.attempt ∙ c.source;
            target = same_target verdict.Accepted b f.attempt ∙ c.target;
            state = same_state verdict.Accepted b f.attempt ∙ c.state;
            owned = owned_copy k b f c;
          };
      judged_ok =
          λ k b r w is says.
          let c = judged_ok verdict.Accepted k b r w is says in
          record { tried = c.tried; target = c.target; verdict = c.verdict };
      judged_high = judged_high verdict.Accepted;
    }
