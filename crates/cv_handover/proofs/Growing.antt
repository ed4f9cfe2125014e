-- What frames say stays true when streams and the history grow.
use Rattle.std.proofs.Common.{◌≡◌, inl, inr, ℕ, ◌<◌, ◌≤◌, List, [], ◌∷◌, length, Some, refl, subst, ◌∙◌, arith}
use Rattle.std.specs.Prelude.{slice_get}
use Rattle.std.proofs.lemmas.List.Elements.{Contains-append_cases, Contains-push_cases}
use Rattle.cv_token.specs.declared.token.Token.{Token}
use Rattle.cv_token.specs.declared.identifiers.ActorId.{ActorId}
use Rattle.cv_token.specs.declared.identifiers.ConnId.{ConnId}
use Rattle.cv_protocol.specs.declared.frame.Body.{Body}
use Rattle.cv_protocol.specs.declared.frame.Body.TheVariants as body
use Rattle.cv_protocol.specs.declared.frame.Frame.{Frame}
use Rattle.cv_protocol.specs.declared.frame.Verdict.{Verdict}
use Rattle.cv_protocol.specs.Actors.{Actor}
use Rattle.cv_handover.specs.Meaning.{Meaning}
use Rattle.cv_handover.specs.Agree.{History, WasTried, SaysTrue, Sent}

-- what was written and what was got goes on
pub record Lengthens (m v : Meaning) : Type 0 where
  pub wrote : (c : ConnId) (i : ℕ) (t : Token) → slice_get (m.wrote c) i ≡ Some t → slice_get (v.wrote c) i ≡ Some t
  pub got : (c : ConnId) → length (m.got c) ≤ length (v.got c)

-- an attempt that was made keeps its ends and its state, and its verdict once it has one
pub record Outlasts (h g : History) : Type 0 where
  pub tried : (a : ActorId) (e : ℕ) → WasTried h a e → WasTried g a e
  pub source : (a : ActorId) (e : ℕ) → WasTried h a e → (g.moves a e).source ≡ (h.moves a e).source
  pub target : (a : ActorId) (e : ℕ) → WasTried h a e → (g.moves a e).target ≡ (h.moves a e).target
  pub state : (a : ActorId) (e : ℕ) → WasTried h a e → (g.moves a e).state ≡ (h.moves a e).state
  pub verdict : (a : ActorId) (e : ℕ) (v : Verdict) → WasTried h a e → (h.moves a e).verdict ≡ Some v → (g.moves a e).verdict ≡ Some v

pub lengthens_itself : (m : Meaning) → Lengthens m m
lengthens_itself m = record { wrote = λ c i t h. h; got = λ c. omega arith }

-- the copies alone change
pub outlasts_copies : (h : History) (copy : ActorId → Actor) → Outlasts h (record h { copy = copy })
outlasts_copies h copy = record {
  tried = λ a e h. h;
  source = λ a e h. refl;
  target = λ a e h. refl;
  state = λ a e h. refl;
  verdict = λ a e v h is. is;
}

says_later : (m v : Meaning) (h g : History) → Lengthens m v → Outlasts h g → (f : Frame) (b : Body) → SaysTrue m h f b → SaysTrue v g f b
says_later m v h g l o f (body.Token c a n t) s = l.wrote c n t s
says_later m v h g l o f (body.Ack c a upto) s = omega (arith, s, l.got c)
says_later m v h g l o f (body.Nack c a upto) s = omega (arith, s, l.got c)
says_later m v h g l o f (body.Transfer a e state) s = record {
  tried = o.tried a e s.tried;
  source = o.source a e s.tried ∙ s.source;
  target = o.target a e s.tried ∙ s.target;
  state = o.state a e s.tried ∙ s.state;
}
says_later m v h g l o f (body.Verdict a e x) s = record {
  tried = o.tried a e s.tried;
  target = o.target a e s.tried ∙ s.target;
  verdict = o.verdict a e x s.tried s.verdict;
}
says_later m v h g l o f (body.Cancel a e) s = record {
  tried = o.tried a e s.tried;
  target = o.target a e s.tried ∙ s.target;
}
says_later m v h g l o f (body.Located a e node) s = tt
says_later m v h g l o f (body.Destroy app) s = tt

pub sent_later : (m v : Meaning) (h g : History) (frames : List Frame) → Lengthens m v → Outlasts h g → Sent m h frames → Sent v g frames
sent_later m v h g frames l o s = λ f is. says_later m v h g l o f f.body (s f is)

-- one more frame is sent, and says what is true
pub sent_one : (m : Meaning) (h : History) (f : Frame) (frames : List Frame) → SaysTrue m h f f.body → Sent m h frames → Sent m h (f ∷ frames)
sent_one m h f frames says s =
    λ x is.
    elim (Contains-append_cases (f ∷ []) frames x is) [
      | inl new ↦
          elim (Contains-push_cases [] f x new) [
            | inl none ↦ let below : none.0 < 0 = none.1 in absurd (omega arith)
            | inr e ↦ subst (λ (y : Frame). SaysTrue m h y y.body) e says
          ]
      | inr old ↦ s x old
    ]
