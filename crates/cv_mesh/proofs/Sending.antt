-- Every row sends frames from its node alone, with the stamp of its entry, and leaves the node's specification.
use Rattle.std.proofs.Common.{◌≡◌, ℕ, zero, suc, Bool, true, false, List, [], ◌∷◌, map, Option, Some, None, IfSome, Contains, refl, sym, ◌∙◌, ap, subst, arith}
use Rattle.std.specs.FinMap as map
use Rattle.cv_token.specs.declared.token.Token.{Token}
use Rattle.cv_token.specs.declared.identifiers.ActorId.{ActorId}
use Rattle.cv_token.specs.declared.identifiers.AppId.{AppId}
use Rattle.cv_token.specs.declared.identifiers.ConnId.{ConnId}
use Rattle.cv_kinds.specs.Net.{Net}
use Rattle.cv_rules.specs.declared.attrs.Attrs.{Attrs}
use Rattle.cv_protocol.specs.declared.event.Event.{Event}
use Rattle.cv_protocol.specs.declared.event.Event.TheVariants as event
use Rattle.cv_protocol.specs.declared.frame.Body.{Body}
use Rattle.cv_protocol.specs.declared.frame.Body.TheVariants as body
use Rattle.cv_protocol.specs.declared.frame.Frame.{Frame}
use Rattle.cv_protocol.specs.declared.frame.Verdict.{Verdict}
use Rattle.cv_protocol.specs.declared.frame.Verdict.TheVariants as verdict
use Rattle.cv_protocol.specs.declared.moving.Application.{Application}
use Rattle.cv_protocol.specs.declared.moving.Application.TheVariants as known
use Rattle.cv_protocol.specs.declared.moving.Frozen.{Frozen}
use Rattle.cv_protocol.specs.declared.moving.Location.{Location}
use Rattle.cv_protocol.specs.declared.state.Hint.{Hint}
use Rattle.cv_protocol.specs.declared.state.Inlet.{Inlet}
use Rattle.cv_protocol.specs.Actors.{LiveState, StateView}
use Rattle.cv_protocol.specs.Poll.{Answer, Fired, Held, Waiting}
use Rattle.cv_protocol.specs.NodeState.{NodeState, is_later, with_hint, raise}
use Rattle.cv_protocol.specs.Rows.{Did, frame_to, becomes, meet, tick, deploy, peek, peek_by, peek_at, peek_inlet, fire, fire_by, fire_at, Outlet, outlet, Seat, Spot, pass, pass_to, pass_into, pass_known, pass_token, send, send_to, send_away, send_number, send_token, rewind, freeze, freeze_to, resend, withdraw, hint, other_nodes, destroy}
use Rattle.cv_protocol.specs.Deliveries.{token_comes, token_into, token_missed, token_hinted, located_away, ack_comes, ack_at, nack_comes, nack_at, old_attempt, old_judged, old_unjudged, old_hinted, refused, accepted, all_raised, arrived, with_verdict, transfer_judged, transfer_comes, cancel_comes, verdict_comes, verdict_for, verdict_by, resumed}
use Rattle.cv_protocol.specs.NodeRow.{row, attempted, stamp_of, stamped, stamped_if, is_bounded, comes, deliver, lose}
use Rattle.cv_mesh.specs.Sending.{IsOwn, SendsOwn}

-- 1. No frame, one frame, a frame to each of several nodes

no_frame : (P : Frame → Type 0) (f : Frame) → Contains [] f → P f
no_frame P f c = absurd (omega (arith, c.1))

one_frame : (x f : Frame) → Contains (x ∷ []) f → x ≡ f
one_frame x f (zero, h, e) = e
one_frame x f (suc n, h, e) = absurd (omega (arith, h))

silent : (s : NodeState) (stamp : ℕ) (d : Did) → d.next.spec ≡ s.spec → d.sends ≡ [] → SendsOwn s stamp d
silent s stamp d spec none = record {
  spec = spec;
  own = λ f c. no_frame (IsOwn s.spec.no stamp) f (subst (λ (fs : List Frame). Contains fs f) none c);
}

sends_one : (s : NodeState) (stamp to : ℕ) (b : Body) (d : Did) → d.next.spec ≡ s.spec → d.sends ≡ frame_to s stamp to b ∷ [] → SendsOwn s stamp d
sends_one s stamp to b d spec one = record {
  spec = spec;
  own = λ f c.
      let is = one_frame (frame_to s stamp to b) f (subst (λ (fs : List Frame). Contains fs f) one c) in
      record { from = ap (λ (x : Frame). x.from) (sym is); stamped = ap (λ (x : Frame). x.stamp) (sym is) };
}

to_each : (s : NodeState) (stamp : ℕ) (b : Body) (nodes : List ℕ) (f : Frame) → Contains (map (λ node. frame_to s stamp node b) nodes) f → IsOwn s.spec.no stamp f
to_each s stamp b [] f c = absurd (omega (arith, c.1))
to_each s stamp b (node ∷ nodes) f (zero, h, e) =
    record { from = ap (λ (x : Frame). x.from) (sym e); stamped = ap (λ (x : Frame). x.stamp) (sym e) }
to_each s stamp b (node ∷ nodes) f (suc n, h, e) = to_each s stamp b nodes f (n, omega (arith, h), e)

-- 2. A raised hint leaves the specification

hinted_spec : (s : NodeState) (a : ActorId) (attempt node : ℕ) (b : Bool) → (with_hint s a attempt node b).spec ≡ s.spec
hinted_spec s a attempt node true = refl
hinted_spec s a attempt node false = refl

raised_spec : (s : NodeState) (a : ActorId) (attempt node : ℕ) → (raise s a attempt node).spec ≡ s.spec
raised_spec s a attempt node = hinted_spec s a attempt node (is_later attempt (map.get s.hints a))

all_raised_spec : (hs : List Hint) (s : NodeState) → (all_raised hs s).spec ≡ s.spec
all_raised_spec [] s = refl
all_raised_spec (h ∷ hs) s =
    all_raised_spec hs (raise s h.actor h.attempt h.node) ∙ raised_spec s h.actor h.attempt h.node

-- 3. What comes

module _ (s : NodeState) (stamp sender : ℕ) where
  nothing : SendsOwn s stamp (becomes s)
  nothing = silent s stamp (becomes s) refl refl

  away : (a : ActorId) (h : Location) (b : Bool) → SendsOwn s stamp (located_away s stamp sender a h b)
  away a h true = nothing
  away a h false = sends_one s stamp sender (body.Located a h.attempt h.node) _ refl refl

  hinted : (a : ActorId) (h : Option Location) → SendsOwn s stamp (token_hinted s stamp sender a h)
  hinted a None = nothing
  hinted a (Some h) = away a h _

  missed : (a : ActorId) (f : Option Frozen) → SendsOwn s stamp (token_missed s stamp sender a f)
  missed a (Some f) = nothing
  missed a None = hinted a _

  into : (a : ActorId) (l : LiveState) (n : ℕ) (t : Token) (y : Option Seat) → SendsOwn s stamp (token_into s stamp sender a l n t y)
  into a l n t None = missed a _
  into a l n t (Some y) = sends_one s stamp sender _ _ refl refl

  token : (conn : ConnId) (a : ActorId) (n : ℕ) (t : Token) (l : Option LiveState) → SendsOwn s stamp (token_comes s stamp sender conn a n t l)
  token conn a n t None = missed a _
  token conn a n t (Some l) = into a l n t _

  ack_there : (a : ActorId) (l : LiveState) (upto : ℕ) (x : Option Spot) → SendsOwn s stamp (ack_at s a l upto x)
  ack_there a l upto None = nothing
  ack_there a l upto (Some x) = silent s stamp _ refl refl

  ack : (conn : ConnId) (a : ActorId) (upto : ℕ) (l : Option LiveState) → SendsOwn s stamp (ack_comes s conn a upto l)
  ack conn a upto None = nothing
  ack conn a upto (Some l) = ack_there a l upto _

  nack_there : (a : ActorId) (l : LiveState) (upto : ℕ) (x : Option Spot) → SendsOwn s stamp (nack_at s a l upto x)
  nack_there a l upto None = nothing
  nack_there a l upto (Some x) = silent s stamp _ refl refl

  nack : (conn : ConnId) (a : ActorId) (upto : ℕ) (l : Option LiveState) → SendsOwn s stamp (nack_comes s conn a upto l)
  nack conn a upto None = nothing
  nack conn a upto (Some l) = nack_there a l upto _

  old_where : (a : ActorId) (h : Location) (b : Bool) → SendsOwn s stamp (old_hinted s stamp sender a h b)
  old_where a h true = sends_one s stamp sender (body.Located a h.attempt h.node) _ refl refl
  old_where a h false = nothing

  old_silent : (a : ActorId) (attempt : ℕ) (h : Option Location) → SendsOwn s stamp (old_unjudged s stamp sender a attempt h)
  old_silent a attempt None = nothing
  old_silent a attempt (Some h) = old_where a h _

  old_told : (a : ActorId) (attempt : ℕ) (v : Option Verdict) → SendsOwn s stamp (old_judged s stamp sender a attempt v)
  old_told a attempt None = old_silent a attempt _
  old_told a attempt (Some v) = sends_one s stamp sender (body.Verdict a attempt v) _ refl refl

  old : (a : ActorId) (attempt : ℕ) → SendsOwn s stamp (old_attempt s stamp sender a attempt)
  old a attempt = old_told a attempt _

  refuses : (a : ActorId) (attempt : ℕ) (v : Verdict) → SendsOwn s stamp (refused s stamp sender a attempt v)
  refuses a attempt v = sends_one s stamp sender (body.Verdict a attempt v) _ refl refl

  accepts : (a : ActorId) (attempt : ℕ) (state : StateView) → SendsOwn s stamp (accepted s stamp sender a attempt state)
  accepts a attempt state =
      let there = arrived (with_verdict s a attempt verdict.Accepted) a attempt state in
      sends_one s stamp sender (body.Verdict a attempt verdict.Accepted) _ (all_raised_spec state.hints (raise there a attempt s.spec.no) ∙ raised_spec there a attempt s.spec.no) refl

  judges : (a : ActorId) (attempt : ℕ) (state : StateView) (v : Verdict) → SendsOwn s stamp (transfer_judged s stamp sender a attempt state v)
  judges a attempt state verdict.Accepted = accepts a attempt state
  judges a attempt state verdict.Unfit = refuses a attempt verdict.Unfit
  judges a attempt state verdict.Full = refuses a attempt verdict.Full
  judges a attempt state verdict.Gone = refuses a attempt verdict.Gone
  judges a attempt state verdict.Cancelled = refuses a attempt verdict.Cancelled

  transfer : (a : ActorId) (attempt : ℕ) (state : StateView) (b : Bool) → SendsOwn s stamp (transfer_comes s stamp sender a attempt state b)
  transfer a attempt state true = old a attempt
  transfer a attempt state false = judges a attempt state _

  cancel : (a : ActorId) (attempt : ℕ) (b : Bool) → SendsOwn s stamp (cancel_comes s stamp sender a attempt b)
  cancel a attempt true = old a attempt
  cancel a attempt false = refuses a attempt verdict.Cancelled

  resumes : (a : ActorId) (f : Frozen) (b : Bool) → SendsOwn s stamp (resumed s a f b)
  resumes a f true = silent s stamp _ refl refl
  resumes a f false = silent s stamp _ refl refl

  judged_so : (a : ActorId) (f : Frozen) (b : Bool) → SendsOwn s stamp (verdict_by s a f b)
  judged_so a f true = silent s stamp _ (raised_spec s a f.attempt f.target) refl
  judged_so a f false = resumes a f _

  judged_for : (a : ActorId) (v : Verdict) (f : Frozen) (b : Bool) → SendsOwn s stamp (verdict_for s a v f b)
  judged_for a v f false = nothing
  judged_for a v f true = judged_so a f _

  verdict_there : (a : ActorId) (attempt : ℕ) (v : Verdict) (f : Option Frozen) → SendsOwn s stamp (verdict_comes s a attempt v f)
  verdict_there a attempt v None = nothing
  verdict_there a attempt v (Some f) = judged_for a v f _

  hint_raised : (a : ActorId) (attempt node : ℕ) → SendsOwn s stamp (hint s a attempt node)
  hint_raised a attempt node = silent s stamp _ (raised_spec s a attempt node) refl

  body_comes : (b : Body) → SendsOwn s stamp (comes s stamp sender b)
  body_comes (body.Token conn a n t) = token conn a n t (map.get s.live a)
  body_comes (body.Ack conn a upto) = ack conn a upto (map.get s.live a)
  body_comes (body.Nack conn a upto) = nack conn a upto (map.get s.live a)
  body_comes (body.Transfer a attempt state) = transfer a attempt state _
  body_comes (body.Verdict a attempt v) = verdict_there a attempt v _
  body_comes (body.Cancel a attempt) = cancel a attempt _
  body_comes (body.Located a attempt node) = hint_raised a attempt node
  body_comes (body.Destroy app) = silent s stamp _ refl refl

-- 4. What a node does by itself

module _ (s : NodeState) (stamp : ℕ) where
  abbrev Own : Option Did → Type 0
  Own d = IfSome d (SendsOwn s stamp)

  meets : (node : ℕ) (attrs : Attrs) (b : Bool) → Own (meet s node attrs b)
  meets node attrs true = silent s stamp _ refl refl
  meets node attrs false = tt

  ticks : (now : ℕ) (b : Bool) → Own (tick s now b)
  ticks now true = silent s stamp _ refl refl
  ticks now false = tt

  deploys : (name : List ℕ) (net : Net) (b : Bool) → Own (deploy s name net b)
  deploys name net true = silent s stamp _ refl refl
  deploys name net false = tt

  peeks_inlet : (a : ActorId) (l : LiveState) (port count : ℕ) (i : Option Inlet) → Own (peek_inlet s a l port count i)
  peeks_inlet a l port count None = tt
  peeks_inlet a l port count (Some i) = silent s stamp _ refl refl

  peeks_at : (a : ActorId) (l : LiveState) (port count : ℕ) (b : Bool) → Own (peek_at s a l port count b)
  peeks_at a l port count true = peeks_inlet a l port count _
  peeks_at a l port count false = tt

  peeks_by : (a : ActorId) (l : LiveState) (port : ℕ) (told : Answer) → Own (peek_by s a l port told)
  peeks_by a l port (Fired action) = tt
  peeks_by a l port (Held held count) = peeks_at a l held count _
  peeks_by a l port (Waiting lacks) = tt

  peeks : (a : ActorId) (port : ℕ) (l : Option LiveState) → Own (peek s a port l)
  peeks a port None = tt
  peeks a port (Some l) = peeks_by a l port _

  fires_at : (a : ActorId) (l : LiveState) (action : ℕ) (b : Bool) → Own (fire_at s a l action b)
  fires_at a l action true = silent s stamp _ refl refl
  fires_at a l action false = tt

  fires_by : (a : ActorId) (l : LiveState) (action : ℕ) (told : Answer) → Own (fire_by s a l action told)
  fires_by a l action (Fired first) = fires_at a l action _
  fires_by a l action (Held port count) = tt
  fires_by a l action (Waiting lacks) = tt

  fires : (a : ActorId) (action : ℕ) (l : Option LiveState) → Own (fire s a action l)
  fires a action None = tt
  fires a action (Some l) = fires_by a l action _

  passes_token : (x : Outlet) (c : ActorId) (l : LiveState) (y : Seat) (t : Option Token) → Own (pass_token s x c l y t)
  passes_token x c l y None = tt
  passes_token x c l y (Some t) = silent s stamp _ refl refl

  passes_known : (x : Outlet) (c : ActorId) (l : LiveState) (y : Seat) (b : Bool) → Own (pass_known s x c l y b)
  passes_known x c l y true = passes_token x c l y _
  passes_known x c l y false = tt

  passes_into : (x : Outlet) (c : ActorId) (l : LiveState) (y : Option Seat) → Own (pass_into s x c l y)
  passes_into x c l None = tt
  passes_into x c l (Some y) = passes_known x c l y _

  passes_to : (x : Outlet) (c : ActorId) (l : Option LiveState) → Own (pass_to s x c l)
  passes_to x c None = tt
  passes_to x c (Some l) = passes_into x c l _

  passes : (x : Option Outlet) → Own (pass s x)
  passes None = tt
  passes (Some x) = passes_to x x.spot.reader.consumer (map.get s.live x.spot.reader.consumer)

  sends_token : (x : Outlet) (node n : ℕ) (t : Option Token) → Own (send_token s stamp x node n t)
  sends_token x node n None = tt
  sends_token x node n (Some t) = sends_one s stamp node (body.Token x.spot.reader.conn x.spot.reader.consumer n t) _ refl refl

  sends_number : (x : Outlet) (node : ℕ) (n : Option ℕ) → Own (send_number s stamp x node n)
  sends_number x node None = tt
  sends_number x node (Some n) = sends_token x node n _

  sends_away : (x : Outlet) (node : ℕ) (b : Bool) → Own (send_away s stamp x node b)
  sends_away x node true = tt
  sends_away x node false = sends_number x node _

  sends_to : (x : Outlet) (h : Option Location) → Own (send_to s stamp x h)
  sends_to x None = tt
  sends_to x (Some h) = sends_away x h.node _

  sends : (x : Option Outlet) → Own (send s stamp x)
  sends None = tt
  sends (Some x) = sends_to x _

  rewinds : (x : Option Outlet) → Own (rewind s x)
  rewinds None = tt
  rewinds (Some x) = silent s stamp _ refl refl

  freezes_to : (a : ActorId) (l : LiveState) (to : ℕ) (b : Bool) → Own (freeze_to s stamp a l to b)
  freezes_to a l to true = sends_one s stamp to _ _ refl refl
  freezes_to a l to false = tt

  freezes : (a : ActorId) (to : ℕ) (l : Option LiveState) → Own (freeze s stamp a to l)
  freezes a to None = tt
  freezes a to (Some l) = freezes_to a l to _

  resends : (a : ActorId) (f : Option Frozen) → Own (resend s stamp a f)
  resends a None = tt
  resends a (Some f) = sends_one s stamp f.target (body.Transfer a f.attempt f.state) _ refl refl

  withdraws : (a : ActorId) (f : Option Frozen) → Own (withdraw s stamp a f)
  withdraws a None = tt
  withdraws a (Some f) = sends_one s stamp f.target (body.Cancel a f.attempt) _ refl refl

  destroys : (app : AppId) (x : Option Application) → Own (destroy s stamp app x)
  destroys app None = tt
  destroys app (Some known.Destroyed) = tt
  destroys app (Some (known.Known name net)) = record { spec = refl; own = to_each s stamp (body.Destroy app) (other_nodes s) }

  loses : (b : Bool) → Own (lose s b)
  loses true = silent s stamp _ refl refl
  loses false = tt

  delivers : (f : Frame) (b : Bool) → Own (deliver s stamp f b)
  delivers f true = body_comes s stamp f.from f.body
  delivers f false = tt

  -- 5. Every event

  attempts : (e : Event) → Own (attempted s stamp e)
  attempts (event.Meet node attrs) = meets node attrs _
  attempts (event.Deploy name net) = deploys name net _
  attempts (event.Tick now) = ticks now _
  attempts (event.Peek a port) = peeks a port (map.get s.live a)
  attempts (event.Fire a action) = fires a action (map.get s.live a)
  attempts (event.Pass conn) = passes (outlet s conn)
  attempts (event.Send conn) = sends (outlet s conn)
  attempts (event.Rewind conn) = rewinds (outlet s conn)
  attempts (event.Freeze a to) = freezes a to (map.get s.live a)
  attempts (event.Resend a) = resends a (map.get s.moves.frozen a)
  attempts (event.Withdraw a) = withdraws a (map.get s.moves.frozen a)
  attempts (event.Hint a attempt node) = hint_raised s stamp s.spec.no a attempt node
  attempts (event.Destroy app) = destroys app (map.get s.known.apps app)
  attempts (event.Lose f) = loses _
  attempts (event.Deliver f) = delivers f _

  stamps_if : (d : Did) (b : Bool) → SendsOwn s stamp d → Own (stamped_if stamp d b)
  stamps_if d true g = record { spec = g.spec; own = g.own }
  stamps_if d false g = tt

  stamps : (d : Option Did) → Own d → Own (stamped stamp d)
  stamps None g = tt
  stamps (Some d) g = stamps_if d (is_bounded stamp d) g

pub row_sends : (s : NodeState) (e : Event) → IfSome (row s e) (SendsOwn s (stamp_of s e))
row_sends s e = stamps s (stamp_of s e) (attempted s (stamp_of s e) e) (attempts s (stamp_of s e) e)
