-- An actor leaves its node by a new attempt.
use Rattle.std.proofs.Common.{◌≡◌, ◌⊎◌, inl, inr, ℕ, ◌+◌, ◌<◌, ◌≤◌, true, Option, Some, None, is_some, sym, ap, ◌∙◌, arith, subst}
use Rattle.std.proofs.lemmas.Grind.{common_steps}
use Rattle.std.proofs.lemmas.Option.{same_Some}
use Rattle.cv_token.specs.declared.identifiers.ActorId.{ActorId}
use Rattle.cv_protocol.specs.declared.frame.Verdict.{Verdict}
use Rattle.cv_protocol.specs.declared.frame.Verdict.TheVariants as verdict
use Rattle.cv_protocol.specs.declared.moving.Judged.{Judged}
use Rattle.cv_protocol.specs.Actors.{Actor}
use Rattle.cv_protocol.specs.NodeState.{judged_attempt}
use Rattle.cv_protocol.specs.Owners.{Owners, Nowhere, At, Between}
use Rattle.cv_handover.specs.Agree.{Living, Copy, Move, History, WasTried, IsOpen, IsCopy, IsVerdict, Owned, Kept}
use Rattle.cv_handover.proofs.Places.{set, set_cases, put, put_cases, note, note_cases}

-- the attempt that leads from i to j with this state
abbrev pub new_move : ℕ → ℕ → Actor → Move
new_move i j x = record { source = i; target = j; state = x; verdict = None }

abbrev pub with_move : History → ActorId → ℕ → ℕ → Actor → History
with_move h a i j x = record {
  copy = set h.copy a x;
  attempt = set h.attempt a (h.attempt a + 1);
  moves = note h.moves a (h.attempt a + 1) (new_move i j x);
}

module _ (live : ℕ → ActorId → Option Living) (frozen : ℕ → ActorId → Option Copy) (judged : ℕ → ActorId → Option Judged) (owner : Owners) (h : History) (a : ActorId) (i j : ℕ) (x : Actor) (here : owner a ≡ At i) (o : Owned live owner h) (q : Kept frozen judged owner h) where
  e : ℕ
  e = h.attempt a + 1

  live_at : (b : ActorId) (k : ℕ) → set owner a (Between i j (h.attempt a + 1)) b ≡ At k → put live i a None k b ≡ Some (record { actor = set h.copy a x b; attempt = set h.attempt a (h.attempt a + 1) b })
  live_at b k is = grind (arith, common_steps, put_cases live i a None k b, set_cases h.copy a x b, set_cases h.attempt a (h.attempt a + 1) b, set_cases owner a (Between i j (h.attempt a + 1)) b, o.live_at b k)

  live_only : (b : ActorId) (k : ℕ) (l : Living) → put live i a None k b ≡ Some l → set owner a (Between i j (h.attempt a + 1)) b ≡ At k
  live_only b k l is = grind (arith, common_steps, put_cases live i a None k b, set_cases owner a (Between i j (h.attempt a + 1)) b, o.live_only b k l, here)

  between : (b : ActorId) (k t d : ℕ) → set owner a (Between i j (h.attempt a + 1)) b ≡ Between k t d → IsOpen (with_move h a i j x) b k t d
  between b k t d is =
      elim (set_cases owner a (Between i j (h.attempt a + 1)) b) [
        | inl s ↦ opened b k t d s.0 (sym s.1 ∙ is)
        | inr s ↦ other b k t d s.0 (sym s.1 ∙ is)
      ]
    where
      opened : (b : ActorId) (k t d : ℕ) → b ≡ a → Between i j (h.attempt a + 1) ≡ Between k t d → IsOpen (with_move h a i j x) b k t d
      opened b k t d same is =
          let n = note_cases h.moves a (h.attempt a + 1) (new_move i j x) b d in
          record {
            newest = grind (arith, common_steps, set_cases h.attempt a (h.attempt a + 1) b, same, is);
            tried = grind (arith, common_steps, is);
            source = grind (arith, common_steps, n, same, is);
            target = grind (arith, common_steps, n, same, is);
            state = grind (arith, common_steps, n, set_cases h.copy a x b, same, is);
            unaccepted = λ v. grind (arith, common_steps, n, same, is, v);
          }

      other : (b : ActorId) (k t d : ℕ) → ((b ≡ a) → ⊥) → owner b ≡ Between k t d → IsOpen (with_move h a i j x) b k t d
      other b k t d apart is =
          let w = o.between b k t d is in
          let n = note_cases h.moves a (h.attempt a + 1) (new_move i j x) b d in
          record {
            newest = grind (arith, common_steps, set_cases h.attempt a (h.attempt a + 1) b, apart, w.newest);
            tried = w.tried;
            source = grind (arith, common_steps, n, apart, w.source);
            target = grind (arith, common_steps, n, apart, w.target);
            state = grind (arith, common_steps, n, set_cases h.copy a x b, apart, w.state);
            unaccepted = λ v. w.unaccepted (grind (arith, common_steps, n, apart, v));
          }

  settled : (b : ActorId) (k d : ℕ) → set owner a (Between i j (h.attempt a + 1)) b ≡ At k → WasTried (with_move h a i j x) b d → is_some (note h.moves a (h.attempt a + 1) (new_move i j x) b d).verdict ≡ true
  settled b k d is tried = grind (arith, common_steps, set_cases owner a (Between i j (h.attempt a + 1)) b, set_cases h.attempt a (h.attempt a + 1) b, note_cases h.moves a (h.attempt a + 1) (new_move i j x) b d, o.settled b k d, tried, is)

  absent : (b : ActorId) (d : ℕ) → set owner a (Between i j (h.attempt a + 1)) b ≡ Nowhere → WasTried (with_move h a i j x) b d → is_some (note h.moves a (h.attempt a + 1) (new_move i j x) b d).verdict ≡ true
  absent b d is tried = grind (arith, common_steps, set_cases owner a (Between i j (h.attempt a + 1)) b, set_cases h.attempt a (h.attempt a + 1) b, note_cases h.moves a (h.attempt a + 1) (new_move i j x) b d, o.absent b d, tried, is)

  past_judged : (b : ActorId) (d : ℕ) → 0 < d → d < set h.attempt a (h.attempt a + 1) b → is_some (note h.moves a (h.attempt a + 1) (new_move i j x) b d).verdict ≡ true
  past_judged b d low high = grind (arith, common_steps, set_cases h.attempt a (h.attempt a + 1) b, note_cases h.moves a (h.attempt a + 1) (new_move i j x) b d, o.past_judged b d, o.settled a i d here, low, high)

  pub owned_freeze : Owned (put live i a None) (set owner a (Between i j (h.attempt a + 1))) (with_move h a i j x)
  owned_freeze = record { live_at = live_at; live_only = live_only; between = between; settled = settled; absent = absent; past_judged = past_judged }

  copied : (k : ℕ) (b : ActorId) (f : Copy) → k ≡ i → b ≡ a → record { actor = x; attempt = h.attempt a + 1; target = j } ≡ f → IsCopy (set owner a (Between i j (h.attempt a + 1))) (with_move h a i j x) b k f
  copied k b f here_too same is =
      let n = note_cases h.moves a (h.attempt a + 1) (new_move i j x) b f.attempt in
      record {
        tried = grind (arith, common_steps, set_cases h.attempt a (h.attempt a + 1) b, same, is);
        source = grind (arith, common_steps, n, same, is, here_too);
        target = grind (arith, common_steps, n, same, is);
        state = grind (arith, common_steps, n, same, is);
        owned = inl (grind (arith, common_steps, set_cases owner a (Between i j (h.attempt a + 1)) b, same, is, here_too));
      }

  owned_still : (k : ℕ) (b : ActorId) (f : Copy) → IsCopy owner h b k f → (set owner a (Between i j (h.attempt a + 1)) b ≡ Between k f.target f.attempt) ⊎ ((note h.moves a (h.attempt a + 1) (new_move i j x) b f.attempt).verdict ≡ Some verdict.Accepted)
  owned_still k b f c =
      elim c.owned [
        | inl w ↦ inl (grind (arith, common_steps, set_cases owner a (Between i j (h.attempt a + 1)) b, w, here))
        | inr w ↦ inr (grind (arith, common_steps, note_cases h.moves a (h.attempt a + 1) (new_move i j x) b f.attempt, w, c.tried))
      ]

  copied_before : (k : ℕ) (b : ActorId) (f : Copy) → IsCopy owner h b k f → IsCopy (set owner a (Between i j (h.attempt a + 1))) (with_move h a i j x) b k f
  copied_before k b f c =
      let n = note_cases h.moves a (h.attempt a + 1) (new_move i j x) b f.attempt in
      record {
        tried = grind (arith, common_steps, set_cases h.attempt a (h.attempt a + 1) b, c.tried);
        source = grind (arith, common_steps, n, c.tried, c.source);
        target = grind (arith, common_steps, n, c.tried, c.target);
        state = grind (arith, common_steps, n, c.tried, c.state);
        owned = owned_still k b f c;
      }

  frozen_ok : (k : ℕ) (b : ActorId) (f : Copy) → put frozen i a (Some (record { actor = x; attempt = h.attempt a + 1; target = j })) k b ≡ Some f → IsCopy (set owner a (Between i j (h.attempt a + 1))) (with_move h a i j x) b k f
  frozen_ok k b f is =
      elim (put_cases frozen i a (Some (record { actor = x; attempt = h.attempt a + 1; target = j })) k b) [
        | inl s ↦ copied k b f s.0 s.1 (same_Some _ f (sym s.2 ∙ is))
        | inr s ↦ copied_before k b f (q.frozen_ok k b f (sym s.1 ∙ is))
      ]

  judged_ok : (k : ℕ) (b : ActorId) (r : Judged) (v : Verdict) → judged k b ≡ Some r → r.verdict ≡ Some v → IsVerdict (with_move h a i j x) b r.attempt k v
  judged_ok k b r v is says =
      let c = q.judged_ok k b r v is says in
      let n = note_cases h.moves a (h.attempt a + 1) (new_move i j x) b r.attempt in
      record {
        tried = grind (arith, common_steps, set_cases h.attempt a (h.attempt a + 1) b, c.tried);
        target = grind (arith, common_steps, n, c.tried, c.target);
        verdict = grind (arith, common_steps, n, c.tried, c.verdict);
      }

  judged_high : (b : ActorId) (d : ℕ) → WasTried (with_move h a i j x) b d → is_some (note h.moves a (h.attempt a + 1) (new_move i j x) b d).verdict ≡ true → d ≤ judged_attempt (judged (note h.moves a (h.attempt a + 1) (new_move i j x) b d).target b)
  judged_high b d tried some =
      elim (note_cases h.moves a (h.attempt a + 1) (new_move i j x) b d) [
        | inl s ↦ absurd (grind (arith, common_steps, s, some))
        | inr s ↦
            let old : WasTried h b d = grind (arith, common_steps, set_cases h.attempt a (h.attempt a + 1) b, tried, s) in
            let high = q.judged_high b d old (ap (λ (w : Move). is_some w.verdict) (sym s.1) ∙ some) in
            subst (λ (w : Move). d ≤ judged_attempt (judged w.target b)) (sym s.1) high
      ]

  pub kept_freeze : Kept (put frozen i a (Some (record { actor = x; attempt = h.attempt a + 1; target = j }))) judged (set owner a (Between i j (h.attempt a + 1))) (with_move h a i j x)
  kept_freeze = record { frozen_ok = frozen_ok; judged_ok = judged_ok; judged_high = judged_high }
