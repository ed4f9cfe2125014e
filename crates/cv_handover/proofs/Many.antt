-- Many actors of a node at once: all of its live ones change, or those of an application go, or come.
use Rattle.std.proofs.Common.{◌≡◌, ◌⊎◌, inl, inr, ℕ, Bool, true, false, ◌&&◌, Option, Some, None, is_some, refl, sym, ap, ◌∙◌, arith, if◌then◌else◌, true≢false}
use Rattle.std.specs.Option.{option_map}
use Rattle.std.proofs.lemmas.Grind.{common_steps}
use Rattle.std.proofs.lemmas.Option.{none-some as none_some}
use Rattle.std.proofs.lemmas.Bool.Decides.{nat_tests}
use Rattle.cv_token.specs.declared.identifiers.AppId.{AppId}
use Rattle.cv_token.specs.declared.identifiers.ActorId.{ActorId}
use Rattle.cv_table.specs.Order.{same_app}
use Rattle.cv_kinds.specs.Net.{Net}
use Rattle.cv_protocol.specs.declared.moving.Judged.{Judged}
use Rattle.cv_protocol.specs.Actors.{Actor}
use Rattle.cv_protocol.specs.Owners.{Owner, Owners, Nowhere, At, Between, is_at, is_of, with_deployed, without_app}
use Rattle.cv_handover.specs.Agree.{Living, Copy, History, WasTried, IsOpen, IsCopy, Owned, Kept}
use Rattle.cv_handover.proofs.Places.{every, every_cases, some_of, some_of_cases, where_so, where_so_cases}

-- whether the owner is that node, as a fact
at_facts : (i : ℕ) (o : Owner) → ((is_at i o ≡ true) × (o ≡ At i)) ⊎ ((is_at i o ≡ false) × ((o ≡ At i) → ⊥))
at_facts i Nowhere = inr (refl, λ p. cc)
at_facts i (At j) = grind (arith, nat_tests, common_steps)
at_facts i (Between s t e) = inr (refl, λ p. cc)

-- 1. All live actors of a node change

abbrev pub changed : (Actor → Actor) → Option Living → Option Living
changed f l = option_map (λ (x : Living). record { actor = f x.actor; attempt = x.attempt }) l

-- the one copy of each actor that lives there
abbrev pub with_changed : Owners → History → ℕ → (Actor → Actor) → History
with_changed owner h i f = record h { copy = where_so h.copy (λ b. is_at i (owner b)) (λ b. f (h.copy b)) }

module _ (live : ℕ → ActorId → Option Living) (owner : Owners) (h : History) (i : ℕ) (f : Actor → Actor) where
  still_there : (k : ℕ) (b : ActorId) → owner b ≡ At k → live k b ≡ Some (record { actor = h.copy b; attempt = h.attempt b }) → every live i (changed f) k b ≡ Some (record { actor = where_so h.copy (λ c. is_at i (owner c)) (λ c. f (h.copy c)) b; attempt = h.attempt b })
  still_there k b is there =
      elim (every_cases live i (changed f) k b) [
        | inl s ↦ s.1 ∙ ap (changed f) there ∙ grind (arith, common_steps, where_so_cases h.copy (λ c. is_at i (owner c)) (λ c. f (h.copy c)) b, at_facts i (owner b), is, s.0)
        | inr s ↦ s.1 ∙ there ∙ grind (arith, common_steps, where_so_cases h.copy (λ c. is_at i (owner c)) (λ c. f (h.copy c)) b, at_facts i (owner b), is, s.0)
      ]

  was_there : (x : Option Living) (l : Living) → changed f x ≡ Some l → (y : Living) × (x ≡ Some y)
  was_there None l is = absurd (cc)
  was_there (Some y) l is = (y, refl)

  only_there : Owned live owner h → (b : ActorId) (k : ℕ) (l : Living) → every live i (changed f) k b ≡ Some l → owner b ≡ At k
  only_there o b k l is =
      elim (every_cases live i (changed f) k b) [
        | inl s ↦ let y = was_there (live k b) l (sym s.1 ∙ is) in o.live_only b k y.0 y.1
        | inr s ↦ o.live_only b k l (sym s.1 ∙ is)
      ]

  open_same : (b : ActorId) (k t d : ℕ) → owner b ≡ Between k t d → IsOpen h b k t d → IsOpen (with_changed owner h i f) b k t d
  open_same b k t d is w = record {
    newest = w.newest;
    tried = w.tried;
    source = w.source;
    target = w.target;
    state = grind (arith, common_steps, where_so_cases h.copy (λ c. is_at i (owner c)) (λ c. f (h.copy c)) b, at_facts i (owner b), is, w.state);
    unaccepted = w.unaccepted;
  }

  pub owned_changed : Owned live owner h → Owned (every live i (changed f)) owner (with_changed owner h i f)
  owned_changed o = record {
    live_at = λ b k is. still_there k b is (o.live_at b k is);
    live_only = only_there o;
    between = λ b k t d is. open_same b k t d is (o.between b k t d is);
    settled = o.settled;
    absent = o.absent;
    past_judged = o.past_judged;
  }

pub kept_history : (frozen : ℕ → ActorId → Option Copy) (judged : ℕ → ActorId → Option Judged) (owner : Owners) (h : History) (copy : ActorId → Actor) → Kept frozen judged owner h → Kept frozen judged owner (record h { copy = copy })
kept_history frozen judged owner h copy q = record {
  frozen_ok = λ k b f e. let c = q.frozen_ok k b f e in record { tried = c.tried; source = c.source; target = c.target; state = c.state; owned = c.owned };
  judged_ok = λ k b j v e g. let c = q.judged_ok k b j v e g in record { tried = c.tried; target = c.target; verdict = c.verdict };
  judged_high = q.judged_high;
}

-- 2. An application's actors that live at a node go

gone_if : (o : Owner) (i : ℕ) (same : Bool) → ((same ≡ true) × (o ≡ At i) × ((if same && is_at i o then Nowhere else o) ≡ Nowhere)) ⊎ (((same ≡ true) → (o ≡ At i) → ⊥) × ((if same && is_at i o then Nowhere else o) ≡ o))
gone_if o i false = inr (λ p q. true≢false (sym p), refl)
gone_if o i true =
    elim (at_facts i o) [
      | inl s ↦ inl (refl, s.1, ap (λ (t : Bool). if t then Nowhere else o) s.0)
      | inr s ↦ inr (λ p. s.1, ap (λ (t : Bool). if t then Nowhere else o) s.0)
    ]

pub without_cases : (owner : Owners) (i : ℕ) (app : AppId) (b : ActorId) → ((same_app b.app app ≡ true) × (owner b ≡ At i) × (without_app owner i app b ≡ Nowhere)) ⊎ (((same_app b.app app ≡ true) → (owner b ≡ At i) → ⊥) × (without_app owner i app b ≡ owner b))
without_cases owner i app b = gone_if (owner b) i (same_app b.app app)

nowhere_at : (i : ℕ) → Nowhere ≡ At i → ⊥
nowhere_at i e = cc

nowhere_way : (i j e : ℕ) → Nowhere ≡ Between i j e → ⊥
nowhere_way i j e p = cc

at_way : (i k j e : ℕ) → At i ≡ Between k j e → ⊥
at_way i k j e p = cc

one_node : (i k : ℕ) → At i ≡ At k → i ≡ k
one_node i k p = cc

module _ (live : ℕ → ActorId → Option Living) (owner : Owners) (h : History) (i : ℕ) (app : AppId) where
  gone_live_at : Owned live owner h → (b : ActorId) (k : ℕ) → without_app owner i app b ≡ At k → some_of live i (λ c. same_app c.app app) (λ c. None) k b ≡ Some (record { actor = h.copy b; attempt = h.attempt b })
  gone_live_at o b k is =
      elim (without_cases owner i app b) [
        | inl s ↦ absurd (nowhere_at k (sym s.2 ∙ is))
        | inr s ↦
            elim (some_of_cases live i (λ c. same_app c.app app) (λ c. None) k b) [
              | inl t ↦ absurd (s.0 t.1 (sym s.1 ∙ is ∙ ap At t.0))
              | inr t ↦ t.1 ∙ o.live_at b k (sym s.1 ∙ is)
            ]
      ]

  gone_live_only : Owned live owner h → (b : ActorId) (k : ℕ) (l : Living) → some_of live i (λ c. same_app c.app app) (λ c. None) k b ≡ Some l → without_app owner i app b ≡ At k
  gone_live_only o b k l is =
      elim (some_of_cases live i (λ c. same_app c.app app) (λ c. None) k b) [
        | inl t ↦ absurd (none_some l (sym t.2 ∙ is))
        | inr t ↦
            let w : owner b ≡ At k = o.live_only b k l (sym t.1 ∙ is) in
            elim (without_cases owner i app b) [
              | inl s ↦ absurd (t.0 (one_node k i (sym w ∙ s.1)) s.0)
              | inr s ↦ s.1 ∙ w
            ]
      ]

  gone_still : (b : ActorId) (x : Owner) → ((Nowhere ≡ x) → ⊥) → without_app owner i app b ≡ x → owner b ≡ x
  gone_still b x apart is =
      elim (without_cases owner i app b) [
        | inl s ↦ absurd (apart (sym s.2 ∙ is))
        | inr s ↦ sym s.1 ∙ is
      ]

  gone_absent : Owned live owner h → (b : ActorId) (e : ℕ) → without_app owner i app b ≡ Nowhere → WasTried h b e → is_some (h.moves b e).verdict ≡ true
  gone_absent o b e is tried =
      elim (without_cases owner i app b) [
        | inl s ↦ o.settled b i e s.1 tried
        | inr s ↦ o.absent b e (sym s.1 ∙ is) tried
      ]

  pub owned_gone : Owned live owner h → Owned (some_of live i (λ c. same_app c.app app) (λ c. None)) (without_app owner i app) h
  owned_gone o = record {
    live_at = gone_live_at o;
    live_only = gone_live_only o;
    between = λ b k t d is. o.between b k t d (gone_still b (Between k t d) (nowhere_way k t d) is);
    settled = λ b k e is. o.settled b k e (gone_still b (At k) (nowhere_at k) is);
    absent = gone_absent o;
    past_judged = o.past_judged;
  }

  gone_copy : (k : ℕ) (b : ActorId) (f : Copy) → IsCopy owner h b k f → IsCopy (without_app owner i app) h b k f
  gone_copy k b f c = record {
    tried = c.tried;
    source = c.source;
    target = c.target;
    state = c.state;
    owned =
        elim c.owned [
          | inl way ↦
              elim (without_cases owner i app b) [
                | inl s ↦ absurd (at_way i k f.target f.attempt (sym s.1 ∙ way))
                | inr s ↦ inl (s.1 ∙ way)
              ]
          | inr accepted ↦ inr accepted
        ];
  }

  pub kept_gone : (frozen : ℕ → ActorId → Option Copy) (judged : ℕ → ActorId → Option Judged) → Kept frozen judged owner h → Kept frozen judged (without_app owner i app) h
  kept_gone frozen judged q = record {
    frozen_ok = λ k b f e. gone_copy k b f (q.frozen_ok k b f e);
    judged_ok = q.judged_ok;
    judged_high = q.judged_high;
  }

-- 3. An application's actors come to live at a node

come_if : (o : Owner) (i : ℕ) (here : Bool) → ((here ≡ true) × ((if here then At i else o) ≡ At i)) ⊎ ((here ≡ false) × ((if here then At i else o) ≡ o))
come_if o i true = inl (refl, refl)
come_if o i false = inr (refl, refl)

pub deployed_cases : (owner : Owners) (i : ℕ) (app : AppId) (net : Net) (b : ActorId) → ((is_of app net b ≡ true) × (with_deployed owner i app net b ≡ At i)) ⊎ ((is_of app net b ≡ false) × (with_deployed owner i app net b ≡ owner b))
deployed_cases owner i app net b = come_if (owner b) i (is_of app net b)

-- the one copy of the actor
abbrev pub as_copied : History → ActorId → Option Living
as_copied h b = Some (record { actor = h.copy b; attempt = h.attempt b })

module _ (live : ℕ → ActorId → Option Living) (owner : Owners) (h : History) (i : ℕ) (app : AppId) (net : Net) (new : (b : ActorId) → is_of app net b ≡ true → owner b ≡ Nowhere) where
  come_live_at : Owned live owner h → (b : ActorId) (k : ℕ) → with_deployed owner i app net b ≡ At k → some_of live i (is_of app net) (as_copied h) k b ≡ Some (record { actor = h.copy b; attempt = h.attempt b })
  come_live_at o b k is =
      elim (some_of_cases live i (is_of app net) (as_copied h) k b) [
        | inl t ↦ t.2
        | inr t ↦
            elim (deployed_cases owner i app net b) [
              | inl s ↦ absurd (t.0 (one_node k i (sym is ∙ s.1)) s.0)
              | inr s ↦ t.1 ∙ o.live_at b k (sym s.1 ∙ is)
            ]
      ]

  come_live_only : Owned live owner h → (b : ActorId) (k : ℕ) (l : Living) → some_of live i (is_of app net) (as_copied h) k b ≡ Some l → with_deployed owner i app net b ≡ At k
  come_live_only o b k l is =
      elim (some_of_cases live i (is_of app net) (as_copied h) k b) [
        | inl t ↦
            elim (deployed_cases owner i app net b) [
              | inl s ↦ s.1 ∙ ap At (sym t.0)
              | inr s ↦ absurd (true≢false (sym t.1 ∙ s.0))
            ]
        | inr t ↦
            let w : owner b ≡ At k = o.live_only b k l (sym t.1 ∙ is) in
            elim (deployed_cases owner i app net b) [
              | inl s ↦ absurd (nowhere_at k (sym (new b s.0) ∙ w))
              | inr s ↦ s.1 ∙ w
            ]
      ]

  come_still : (b : ActorId) (x : Owner) → ((At i ≡ x) → ⊥) → with_deployed owner i app net b ≡ x → owner b ≡ x
  come_still b x apart is =
      elim (deployed_cases owner i app net b) [
        | inl s ↦ absurd (apart (sym s.1 ∙ is))
        | inr s ↦ sym s.1 ∙ is
      ]

  come_settled : Owned live owner h → (b : ActorId) (k e : ℕ) → with_deployed owner i app net b ≡ At k → WasTried h b e → is_some (h.moves b e).verdict ≡ true
  come_settled o b k e is tried =
      elim (deployed_cases owner i app net b) [
        | inl s ↦ o.absent b e (new b s.0) tried
        | inr s ↦ o.settled b k e (sym s.1 ∙ is) tried
      ]

  pub owned_come : Owned live owner h → Owned (some_of live i (is_of app net) (as_copied h)) (with_deployed owner i app net) h
  owned_come o = record {
    live_at = come_live_at o;
    live_only = come_live_only o;
    between = λ b k t d is. o.between b k t d (come_still b (Between k t d) (at_way i k t d) is);
    settled = come_settled o;
    absent = λ b e is. o.absent b e (come_still b Nowhere (λ p. nowhere_at i (sym p)) is);
    past_judged = o.past_judged;
  }

  come_copy : (k : ℕ) (b : ActorId) (f : Copy) → IsCopy owner h b k f → IsCopy (with_deployed owner i app net) h b k f
  come_copy k b f c = record {
    tried = c.tried;
    source = c.source;
    target = c.target;
    state = c.state;
    owned =
        elim c.owned [
          | inl way ↦
              elim (deployed_cases owner i app net b) [
                | inl s ↦ absurd (nowhere_way k f.target f.attempt (sym (new b s.0) ∙ way))
                | inr s ↦ inl (s.1 ∙ way)
              ]
          | inr accepted ↦ inr accepted
        ];
  }

  pub kept_come : (frozen : ℕ → ActorId → Option Copy) (judged : ℕ → ActorId → Option Judged) → Kept frozen judged owner h → Kept frozen judged (with_deployed owner i app net) h
  kept_come frozen judged q = record {
    frozen_ok = λ k b f e. come_copy k b f (q.frozen_ok k b f e);
    judged_ok = q.judged_ok;
    judged_high = q.judged_high;
  }
