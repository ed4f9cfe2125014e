-- Rows that change no owner, no copy and no stream: what a node knows and the moment change, or a frame is sent.
use Rattle.std.proofs.Common.{◌≡◌, ℕ, Bool, true, false, ◌==◌, [], ◌∷◌, Option, Some, None, if◌then◌else◌, arith, refl, sym, ap, subst, ◌∙◌}
use Rattle.std.specs.Prelude.{nat_lt, nat_le, option_map}
use Rattle.std.proofs.lemmas.Bool.Decides.{nat_tests}
use Rattle.std.proofs.lemmas.Option.{none-some as none_some}
use Rattle.std.specs.FinMap as map
use Rattle.cv_token.specs.declared.identifiers.ActorId.{ActorId}
use Rattle.cv_rules.specs.declared.attrs.Attrs.{Attrs}
use Rattle.cv_protocol.specs.declared.frame.Body.TheVariants as body
use Rattle.cv_protocol.specs.declared.frame.Frame.{Frame}
use Rattle.cv_protocol.specs.declared.frame.Verdict.{Verdict}
use Rattle.cv_protocol.specs.declared.moving.Frozen.{Frozen}
use Rattle.cv_protocol.specs.declared.moving.Judged.{Judged}
use Rattle.cv_protocol.specs.declared.moving.Location.{Location}
use Rattle.cv_protocol.specs.NodeState.{NodeState, raise}
use Rattle.cv_protocol.specs.Poll.{limit}
use Rattle.cv_protocol.specs.Rows.{becomes, frame_to, sends_alone, meet, tick, resend, withdraw, hint}
use Rattle.cv_protocol.specs.Deliveries.{located, old_hinted, old_unjudged, old_judged, verdict_of, old_attempt}
use Rattle.cv_protocol.specs.NodeRow.{lose}
use Rattle.cv_handover.specs.World.{World}
use Rattle.cv_handover.specs.Meaning.{Nets, Meaning}
use Rattle.cv_handover.specs.Agree.{copy_of, History, IsCopy, IsVerdict, SaysTrue, Agree}
use Rattle.cv_handover.proofs.Goes.{Goes, GoesIfFew, Shows, agree_shown}
use Rattle.cv_handover.proofs.Growing.{sent_one}
use Rattle.cv_handover.proofs.Raising.{Rewinds, rewinds_agree, rewinds_raise}
use Rattle.cv_handover.proofs.Living.{at_same, goes_still}

pub number_same : (a b : ℕ) → (a == b) ≡ true → a ≡ b
number_same a b e = grind (arith, nat_tests)

module _ (n : Nets) (w : World) (m : Meaning) (h : History) (i : ℕ) (g : Agree n w.nodes w.frames m h) where
  -- 1. The tables stay

  pub goes_shown : (t : NodeState) → Shows (w.nodes i) t → Goes n w m i (becomes t)
  goes_shown t q = record {
    meaning = m;
    history = h;
    means_it = refl;
    agrees = agree_shown n w.nodes i (w.nodes i) t w.frames m h q (subst (λ (f : ℕ → NodeState). Agree n f w.frames m h) (sym (at_same w.nodes i)) g);
  }

  pub goes_nothing : Goes n w m i (becomes (w.nodes i))
  goes_nothing = goes_still n w m h i g [] g.sent

  -- a frame that says what is true
  pub goes_sending : (f : Frame) → SaysTrue m h f f.body → Goes n w m i (sends_alone (w.nodes i) f)
  goes_sending f says = goes_still n w m h i g (f ∷ []) (sent_one m h f w.frames says g.sent)

  pub leads_meet : (node : ℕ) (attrs : Attrs) (b : Bool) → GoesIfFew n w m i (meet (w.nodes i) node attrs b)
  leads_meet node attrs false = tt
  leads_meet node attrs true = λ fits. goes_shown _ (record { number = refl; deployed = refl; live = refl; frozen = refl; judged = refl })

  pub leads_tick : (now : ℕ) (b : Bool) → GoesIfFew n w m i (tick (w.nodes i) now b)
  leads_tick now false = tt
  leads_tick now true = λ fits. goes_shown _ (record { number = refl; deployed = refl; live = refl; frozen = refl; judged = refl })

  pub leads_lose : (b : Bool) → GoesIfFew n w m i (lose (w.nodes i) b)
  leads_lose false = tt
  leads_lose true = λ fits. goes_nothing

  -- 2. A frozen copy is told of again

  copy_here : (a : ActorId) (f : Frozen) → map.get (w.nodes i).moves.frozen a ≡ Some f → IsCopy m.owner h a i (copy_of f)
  copy_here a f is = g.kept.frozen_ok i a (copy_of f) (ap (option_map copy_of) is)

  pub leads_resend : (stamp : ℕ) (a : ActorId) (x : Option Frozen) → map.get (w.nodes i).moves.frozen a ≡ x → GoesIfFew n w m i (resend (w.nodes i) stamp a x)
  leads_resend stamp a None is = tt
  leads_resend stamp a (Some f) is =
      let c = copy_here a f is in
      λ fits. goes_sending (frame_to (w.nodes i) stamp f.target (body.Transfer a f.attempt f.state)) (record {
        tried = c.tried;
        source = c.source ∙ sym (g.numbered.number i);
        target = c.target;
        state = c.state;
      })

  pub leads_withdraw : (stamp : ℕ) (a : ActorId) (x : Option Frozen) → map.get (w.nodes i).moves.frozen a ≡ x → GoesIfFew n w m i (withdraw (w.nodes i) stamp a x)
  leads_withdraw stamp a None is = tt
  leads_withdraw stamp a (Some f) is =
      let c = copy_here a f is in
      λ fits. goes_sending (frame_to (w.nodes i) stamp f.target (body.Cancel a f.attempt)) (record { tried = c.tried; target = c.target })

  -- 3. What is told of where an actor is

  pub goes_located : (stamp sender : ℕ) (a : ActorId) (x : Location) → Goes n w m i (located (w.nodes i) stamp sender a x)
  goes_located stamp sender a x = goes_sending (frame_to (w.nodes i) stamp sender (body.Located a x.attempt x.node)) tt

  -- 4. An attempt that is not above what is kept here

  old_away : (stamp sender : ℕ) (a : ActorId) (x : Location) (b : Bool) → Goes n w m i (old_hinted (w.nodes i) stamp sender a x b)
  old_away stamp sender a x true = goes_located stamp sender a x
  old_away stamp sender a x false = goes_nothing

  old_elsewhere : (stamp sender : ℕ) (a : ActorId) (e : ℕ) (x : Option Location) → Goes n w m i (old_unjudged (w.nodes i) stamp sender a e x)
  old_elsewhere stamp sender a e None = goes_nothing
  old_elsewhere stamp sender a e (Some x) = old_away stamp sender a x (nat_le e x.attempt)

  old_told : (stamp sender : ℕ) (a : ActorId) (e : ℕ) (v : Option Verdict) → ((x : Verdict) → v ≡ Some x → IsVerdict h a e i x) → Goes n w m i (old_judged (w.nodes i) stamp sender a e v)
  old_told stamp sender a e None says = old_elsewhere stamp sender a e (map.get (w.nodes i).hints a)
  old_told stamp sender a e (Some v) says =
      let c = says v refl in
      goes_sending (frame_to (w.nodes i) stamp sender (body.Verdict a e v)) (record {
        tried = c.tried;
        target = c.target ∙ sym (g.numbered.number i);
        verdict = c.verdict;
      })

  exact : (a : ActorId) (e : ℕ) (j : Judged) (b : Bool) → (j.attempt == e) ≡ b → map.get (w.nodes i).moves.judged a ≡ Some j → (v : Verdict) → (if b then j.verdict else None) ≡ Some v → IsVerdict h a e i v
  exact a e j false same is v says = absurd (none_some v says)
  exact a e j true same is v says = subst (λ (d : ℕ). IsVerdict h a d i v) (number_same j.attempt e same) (g.kept.judged_ok i a j v is says)

  told_of : (a : ActorId) (e : ℕ) (x : Option Judged) → map.get (w.nodes i).moves.judged a ≡ x → (v : Verdict) → verdict_of e x ≡ Some v → IsVerdict h a e i v
  told_of a e None is v says = absurd (none_some v says)
  told_of a e (Some j) is v says = exact a e j (j.attempt == e) refl is v says

  pub goes_old : (stamp sender : ℕ) (a : ActorId) (e : ℕ) → Goes n w m i (old_attempt (w.nodes i) stamp sender a e)
  goes_old stamp sender a e = old_told stamp sender a e (verdict_of e (map.get (w.nodes i).moves.judged a)) (told_of a e (map.get (w.nodes i).moves.judged a) refl)

  -- 5. A hint is raised

  pub goes_rewound : (f : NodeState → NodeState) → Rewinds n m i f → (fit : Bool) → Goes n w m i (record (becomes (f (w.nodes i))) { fits = fit })
  goes_rewound f p fit =
      let x = rewinds_agree n m i f p w.nodes w.frames h g in
      record { meaning = m; history = record h { copy = x.copy }; means_it = refl; agrees = x.agrees }

  pub goes_hint : (a : ActorId) (e k : ℕ) → Goes n w m i (hint (w.nodes i) a e k)
  goes_hint a e k = goes_rewound (λ s. raise s a e k) (rewinds_raise n m i a e k) (nat_lt e limit)
