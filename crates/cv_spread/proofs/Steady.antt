-- What a run does at a node never sends or does a removal, a deployment or a departure, as long as no frame says that an application is destroyed.
use Rattle.std.proofs.Common.{◌≡◌, ◌==◌, ◌&&◌, ℕ, zero, suc, Bool, true, false, List, [], ◌∷◌, Option, Some, None, IfSome, Contains, refl, ap, subst, arith}
use Rattle.std.specs.List.{list_all}
use Rattle.std.specs.FinMap as map
use Rattle.std.proofs.lemmas.Bool.{and_parts}
use Rattle.cv_token.specs.declared.token.Token.{Token}
use Rattle.cv_token.specs.declared.identifiers.ActorId.{ActorId}
use Rattle.cv_token.specs.declared.identifiers.ConnId.{ConnId}
use Rattle.cv_rules.specs.declared.attrs.Attrs.{Attrs}
use Rattle.cv_queue.specs.declared.in_port.Offered.{Offered}
use Rattle.cv_queue.specs.declared.in_port.Offered.TheVariants as offered
use Rattle.cv_endpoint.specs.declared.ends.Answer.TheVariants as answer
use Rattle.cv_endpoint.specs.declared.ends.Answer as ends
use Rattle.cv_protocol.specs.declared.event.Entry.{Entry}
use Rattle.cv_protocol.specs.declared.event.Event.{Event}
use Rattle.cv_protocol.specs.declared.event.Event.TheVariants as event
use Rattle.cv_protocol.specs.declared.frame.Body.{Body}
use Rattle.cv_protocol.specs.declared.frame.Body.TheVariants as body
use Rattle.cv_protocol.specs.declared.frame.Frame.{Frame}
use Rattle.cv_protocol.specs.declared.frame.Verdict.{Verdict}
use Rattle.cv_protocol.specs.declared.frame.Verdict.TheVariants as verdict
use Rattle.cv_protocol.specs.declared.moving.Frozen.{Frozen}
use Rattle.cv_protocol.specs.declared.moving.Location.{Location}
use Rattle.cv_protocol.specs.declared.state.Inlet.{Inlet}
use Rattle.cv_protocol.specs.Actors.{LiveState, StateView}
use Rattle.cv_protocol.specs.Poll.{Answer, Fired, Held, Waiting}
use Rattle.cv_protocol.specs.NodeState.{NodeState}
use Rattle.cv_protocol.specs.Rows.{Did, Deed, Nothing, Deployed, Used, Fired_action, Passed, Received, Froze, Accepted_here, Resumed, Removed, Destroyed_here, becomes, meet, tick, peek, peek_by, peek_at, peek_inlet, fire, fire_by, fire_at, Outlet, outlet, Seat, Spot, pass, pass_to, pass_into, pass_known, pass_token, send, send_to, send_away, send_number, send_token, rewind}
use Rattle.cv_protocol.specs.Deliveries.{told, offer_deed, token_comes, token_into, token_missed, token_hinted, located_away, ack_comes, ack_at, nack_comes, nack_at, old_attempt, old_judged, old_unjudged, old_hinted, refused, transfer_judged, transfer_comes, cancel_comes, verdict_comes, verdict_for, verdict_by, resumed}
use Rattle.cv_protocol.specs.Journals.{did_at, did_if, got_frame}
use Rattle.cv_protocol.specs.NodeRow.{row, attempted, stamp_of, stamped, stamped_if, is_bounded, comes, deliver, lose}
use Rattle.cv_mesh.specs.Going.{is_of_run}

-- 1. Frames, deeds and events

-- the frame says nothing of an application that is destroyed
abbrev pub is_calm : Body → Bool
is_calm (body.Token conn a n t) = true
is_calm (body.Ack conn a upto) = true
is_calm (body.Nack conn a upto) = true
is_calm (body.Transfer a attempt state) = true
is_calm (body.Verdict a attempt v) = true
is_calm (body.Cancel a attempt) = true
is_calm (body.Located a attempt node) = true
is_calm (body.Destroy app) = false

abbrev pub are_calm : List Frame → Bool
are_calm frames = list_all (λ (f : Frame). is_calm f.body) frames

-- the deed needs no new owner, or one that is on its way already
abbrev pub keeps : Deed → Bool
keeps Nothing = true
keeps (Deployed app net) = false
keeps (Used a) = true
keeps (Fired_action a action) = true
keeps (Passed a b conn token) = true
keeps (Received a conn t) = true
keeps (Froze a to e) = false
keeps (Accepted_here a e) = true
keeps (Resumed a e) = true
keeps (Removed a e) = true
keeps (Destroyed_here app) = false

abbrev pub is_still : Event → Bool
is_still (event.Deliver f) = is_calm f.body
is_still (event.Lose f) = true
is_still (event.Meet node attrs) = true
is_still (event.Tick now) = true
is_still (event.Peek a port) = true
is_still (event.Fire a action) = true
is_still (event.Pass conn) = true
is_still (event.Send conn) = true
is_still (event.Rewind conn) = true
is_still (event.Deploy name net) = false
is_still (event.Freeze a to) = false
is_still (event.Resend a) = false
is_still (event.Withdraw a) = false
is_still (event.Hint a attempt node) = false
is_still (event.Destroy app) = false

pub still_event : (e : Event) → is_of_run e ≡ true → ((f : Frame) → got_frame e ≡ Some f → is_calm f.body ≡ true) → is_still e ≡ true
still_event (event.Deliver f) own calm = calm f refl
still_event (event.Lose f) own calm = refl
still_event (event.Meet node attrs) own calm = refl
still_event (event.Tick now) own calm = refl
still_event (event.Peek a port) own calm = refl
still_event (event.Fire a action) own calm = refl
still_event (event.Pass conn) own calm = refl
still_event (event.Send conn) own calm = refl
still_event (event.Rewind conn) own calm = refl
still_event (event.Deploy name net) own calm = absurd (cc)
still_event (event.Freeze a to) own calm = absurd (cc)
still_event (event.Resend a) own calm = absurd (cc)
still_event (event.Withdraw a) own calm = absurd (cc)
still_event (event.Hint a attempt node) own calm = absurd (cc)
still_event (event.Destroy app) own calm = absurd (cc)

pub record Steady (d : Did) : Type 0 where
  pub deed : keeps d.deed ≡ true
  pub sends : are_calm d.sends ≡ true

pub calm_in : (frames : List Frame) (f : Frame) → are_calm frames ≡ true → Contains frames f → is_calm f.body ≡ true
calm_in [] f all c = absurd (omega (arith, c.1))
calm_in (x ∷ frames) f all (zero, h, e) =
    subst (λ (y : Frame). is_calm y.body ≡ true) e (and_parts (is_calm x.body) (are_calm frames) all).0
calm_in (x ∷ frames) f all (suc n, h, e) =
    calm_in frames f (and_parts (is_calm x.body) (are_calm frames) all).1 (n, omega (arith, h), e)

steady : (d : Did) → keeps d.deed ≡ true → are_calm d.sends ≡ true → Steady d
steady d deed sends = record { deed = deed; sends = sends }

-- 2. What comes

offer_keeps : (a : ActorId) (conn : ConnId) (t : Token) (o : Offered) → keeps (offer_deed a conn t o) ≡ true
offer_keeps a conn t offered.Taken = refl
offer_keeps a conn t offered.Old = refl
offer_keeps a conn t offered.Gap = refl
offer_keeps a conn t offered.Full = refl

told_calm : (to : Body → Frame) → ((b : Body) → (to b).body ≡ b) → (conn : ConnId) (a : ActorId) (x : ends.Answer) → are_calm (to (told conn a x) ∷ []) ≡ true
told_calm to same conn a (answer.Ack upto) = ap (λ (b : Body). is_calm b && true) (same (body.Ack conn a upto))
told_calm to same conn a (answer.Nack upto) = ap (λ (b : Body). is_calm b && true) (same (body.Nack conn a upto))

module _ (s : NodeState) (stamp sender : ℕ) where
  nothing : Steady (becomes s)
  nothing = steady (becomes s) refl refl

  away : (a : ActorId) (h : Location) (b : Bool) → Steady (located_away s stamp sender a h b)
  away a h true = nothing
  away a h false = steady _ refl refl

  hinted : (a : ActorId) (h : Option Location) → Steady (token_hinted s stamp sender a h)
  hinted a None = nothing
  hinted a (Some h) = away a h _

  missed : (a : ActorId) (f : Option Frozen) → Steady (token_missed s stamp sender a f)
  missed a (Some f) = nothing
  missed a None = hinted a _

  into : (a : ActorId) (l : LiveState) (n : ℕ) (t : Token) (y : Option Seat) → Steady (token_into s stamp sender a l n t y)
  into a l n t None = missed a _
  into a l n t (Some y) =
      steady _ (offer_keeps a y.inlet.conn t _) (told_calm (λ b. record { from = s.spec.no; to = sender; stamp = stamp; body = b }) (λ b. refl) y.inlet.conn y.inlet.producer _)

  token : (conn : ConnId) (a : ActorId) (n : ℕ) (t : Token) (l : Option LiveState) → Steady (token_comes s stamp sender conn a n t l)
  token conn a n t None = missed a _
  token conn a n t (Some l) = into a l n t _

  ack_there : (a : ActorId) (l : LiveState) (upto : ℕ) (x : Option Spot) → Steady (ack_at s a l upto x)
  ack_there a l upto None = nothing
  ack_there a l upto (Some x) = steady _ refl refl

  ack : (conn : ConnId) (a : ActorId) (upto : ℕ) (l : Option LiveState) → Steady (ack_comes s conn a upto l)
  ack conn a upto None = nothing
  ack conn a upto (Some l) = ack_there a l upto _

  nack_there : (a : ActorId) (l : LiveState) (upto : ℕ) (x : Option Spot) → Steady (nack_at s a l upto x)
  nack_there a l upto None = nothing
  nack_there a l upto (Some x) = steady _ refl refl

  nack : (conn : ConnId) (a : ActorId) (upto : ℕ) (l : Option LiveState) → Steady (nack_comes s conn a upto l)
  nack conn a upto None = nothing
  nack conn a upto (Some l) = nack_there a l upto _

  old_where : (a : ActorId) (h : Location) (b : Bool) → Steady (old_hinted s stamp sender a h b)
  old_where a h true = steady _ refl refl
  old_where a h false = nothing

  old_silent : (a : ActorId) (attempt : ℕ) (h : Option Location) → Steady (old_unjudged s stamp sender a attempt h)
  old_silent a attempt None = nothing
  old_silent a attempt (Some h) = old_where a h _

  old_told : (a : ActorId) (attempt : ℕ) (v : Option Verdict) → Steady (old_judged s stamp sender a attempt v)
  old_told a attempt None = old_silent a attempt _
  old_told a attempt (Some v) = steady _ refl refl

  old : (a : ActorId) (attempt : ℕ) → Steady (old_attempt s stamp sender a attempt)
  old a attempt = old_told a attempt _

  refuses : (a : ActorId) (attempt : ℕ) (v : Verdict) → Steady (refused s stamp sender a attempt v)
  refuses a attempt v = steady _ refl refl

  judges : (a : ActorId) (attempt : ℕ) (state : StateView) (v : Verdict) → Steady (transfer_judged s stamp sender a attempt state v)
  judges a attempt state verdict.Accepted = steady _ refl refl
  judges a attempt state verdict.Unfit = refuses a attempt verdict.Unfit
  judges a attempt state verdict.Full = refuses a attempt verdict.Full
  judges a attempt state verdict.Gone = refuses a attempt verdict.Gone
  judges a attempt state verdict.Cancelled = refuses a attempt verdict.Cancelled

  transfer : (a : ActorId) (attempt : ℕ) (state : StateView) (b : Bool) → Steady (transfer_comes s stamp sender a attempt state b)
  transfer a attempt state true = old a attempt
  transfer a attempt state false = judges a attempt state _

  cancel : (a : ActorId) (attempt : ℕ) (b : Bool) → Steady (cancel_comes s stamp sender a attempt b)
  cancel a attempt true = old a attempt
  cancel a attempt false = refuses a attempt verdict.Cancelled

  resumes : (a : ActorId) (f : Frozen) (b : Bool) → Steady (resumed s a f b)
  resumes a f true = steady _ refl refl
  resumes a f false = steady _ refl refl

  judged_so : (a : ActorId) (f : Frozen) (b : Bool) → Steady (verdict_by s a f b)
  judged_so a f true = steady _ refl refl
  judged_so a f false = resumes a f _

  judged_for : (a : ActorId) (v : Verdict) (f : Frozen) (b : Bool) → Steady (verdict_for s a v f b)
  judged_for a v f false = nothing
  judged_for a v f true = judged_so a f _

  verdict_there : (a : ActorId) (attempt : ℕ) (v : Verdict) (f : Option Frozen) → Steady (verdict_comes s a attempt v f)
  verdict_there a attempt v None = nothing
  verdict_there a attempt v (Some f) = judged_for a v f _

  body_comes : (b : Body) → is_calm b ≡ true → Steady (comes s stamp sender b)
  body_comes (body.Token conn a n t) calm = token conn a n t (map.get s.live a)
  body_comes (body.Ack conn a upto) calm = ack conn a upto (map.get s.live a)
  body_comes (body.Nack conn a upto) calm = nack conn a upto (map.get s.live a)
  body_comes (body.Transfer a attempt state) calm = transfer a attempt state _
  body_comes (body.Verdict a attempt v) calm = verdict_there a attempt v _
  body_comes (body.Cancel a attempt) calm = cancel a attempt _
  body_comes (body.Located a attempt node) calm = steady _ refl refl
  body_comes (body.Destroy app) calm = absurd (cc)

-- 3. What a node does by itself

module _ (s : NodeState) (stamp : ℕ) where
  abbrev Own : Option Did → Type 0
  Own d = IfSome d Steady

  meets : (node : ℕ) (attrs : Attrs) (b : Bool) → Own (meet s node attrs b)
  meets node attrs true = steady _ refl refl
  meets node attrs false = tt

  ticks : (now : ℕ) (b : Bool) → Own (tick s now b)
  ticks now true = steady _ refl refl
  ticks now false = tt

  peeks_inlet : (a : ActorId) (l : LiveState) (port count : ℕ) (i : Option Inlet) → Own (peek_inlet s a l port count i)
  peeks_inlet a l port count None = tt
  peeks_inlet a l port count (Some i) = steady _ refl refl

  peeks_at : (a : ActorId) (l : LiveState) (port count : ℕ) (b : Bool) → Own (peek_at s a l port count b)
  peeks_at a l port count true = peeks_inlet a l port count _
  peeks_at a l port count false = tt

  peeks_by : (a : ActorId) (l : LiveState) (port : ℕ) (told : Answer) → Own (peek_by s a l port told)
  peeks_by a l port (Fired action) = tt
  peeks_by a l port (Held held count) = peeks_at a l held count _
  peeks_by a l port (Waiting lacks) = tt

  peeks : (a : ActorId) (port : ℕ) (l : Option LiveState) → Own (peek s a port l)
  peeks a port None = tt
  peeks a port (Some l) = peeks_by a l port _

  fires_at : (a : ActorId) (l : LiveState) (action : ℕ) (b : Bool) → Own (fire_at s a l action b)
  fires_at a l action true = steady _ refl refl
  fires_at a l action false = tt

  fires_by : (a : ActorId) (l : LiveState) (action : ℕ) (told : Answer) → Own (fire_by s a l action told)
  fires_by a l action (Fired first) = fires_at a l action _
  fires_by a l action (Held port count) = tt
  fires_by a l action (Waiting lacks) = tt

  fires : (a : ActorId) (action : ℕ) (l : Option LiveState) → Own (fire s a action l)
  fires a action None = tt
  fires a action (Some l) = fires_by a l action _

  passes_token : (x : Outlet) (c : ActorId) (l : LiveState) (y : Seat) (t : Option Token) → Own (pass_token s x c l y t)
  passes_token x c l y None = tt
  passes_token x c l y (Some t) = steady _ refl refl

  passes_known : (x : Outlet) (c : ActorId) (l : LiveState) (y : Seat) (b : Bool) → Own (pass_known s x c l y b)
  passes_known x c l y true = passes_token x c l y _
  passes_known x c l y false = tt

  passes_into : (x : Outlet) (c : ActorId) (l : LiveState) (y : Option Seat) → Own (pass_into s x c l y)
  passes_into x c l None = tt
  passes_into x c l (Some y) = passes_known x c l y _

  passes_to : (x : Outlet) (c : ActorId) (l : Option LiveState) → Own (pass_to s x c l)
  passes_to x c None = tt
  passes_to x c (Some l) = passes_into x c l _

  passes : (x : Option Outlet) → Own (pass s x)
  passes None = tt
  passes (Some x) = passes_to x x.spot.reader.consumer (map.get s.live x.spot.reader.consumer)

  sends_token : (x : Outlet) (node n : ℕ) (t : Option Token) → Own (send_token s stamp x node n t)
  sends_token x node n None = tt
  sends_token x node n (Some t) = steady _ refl refl

  sends_number : (x : Outlet) (node : ℕ) (n : Option ℕ) → Own (send_number s stamp x node n)
  sends_number x node None = tt
  sends_number x node (Some n) = sends_token x node n _

  sends_away : (x : Outlet) (node : ℕ) (b : Bool) → Own (send_away s stamp x node b)
  sends_away x node true = tt
  sends_away x node false = sends_number x node _

  sends_to : (x : Outlet) (h : Option Location) → Own (send_to s stamp x h)
  sends_to x None = tt
  sends_to x (Some h) = sends_away x h.node _

  sends : (x : Option Outlet) → Own (send s stamp x)
  sends None = tt
  sends (Some x) = sends_to x _

  rewinds : (x : Option Outlet) → Own (rewind s x)
  rewinds None = tt
  rewinds (Some x) = steady _ refl refl

  loses : (b : Bool) → Own (lose s b)
  loses true = steady _ refl refl
  loses false = tt

  delivers : (f : Frame) (b : Bool) → is_calm f.body ≡ true → Own (deliver s stamp f b)
  delivers f true calm = body_comes s stamp f.from f.body calm
  delivers f false calm = tt

  attempts : (e : Event) → is_still e ≡ true → Own (attempted s stamp e)
  attempts (event.Meet node attrs) still = meets node attrs _
  attempts (event.Tick now) still = ticks now _
  attempts (event.Peek a port) still = peeks a port (map.get s.live a)
  attempts (event.Fire a action) still = fires a action (map.get s.live a)
  attempts (event.Pass conn) still = passes (outlet s conn)
  attempts (event.Send conn) still = sends (outlet s conn)
  attempts (event.Rewind conn) still = rewinds (outlet s conn)
  attempts (event.Lose f) still = loses _
  attempts (event.Deliver f) still = delivers f _ still
  attempts (event.Deploy name net) still = absurd (cc)
  attempts (event.Freeze a to) still = absurd (cc)
  attempts (event.Resend a) still = absurd (cc)
  attempts (event.Withdraw a) still = absurd (cc)
  attempts (event.Hint a attempt node) still = absurd (cc)
  attempts (event.Destroy app) still = absurd (cc)

  stamps_if : (d : Did) (b : Bool) → Steady d → Own (stamped_if stamp d b)
  stamps_if d true g = record { deed = g.deed; sends = g.sends }
  stamps_if d false g = tt

  stamps : (d : Option Did) → Own d → Own (stamped stamp d)
  stamps None g = tt
  stamps (Some d) g = stamps_if d (is_bounded stamp d) g

row_steady : (s : NodeState) (e : Event) → is_still e ≡ true → IfSome (row s e) Steady
row_steady s e still = stamps s (stamp_of s e) (attempted s (stamp_of s e) e) (attempts s (stamp_of s e) e still)

-- 4. An entry that is a row

pub row_of : (b : Bool) (o : Option Did) (d : Did) → did_if b o ≡ Some d → o ≡ Some d
row_of true o d is = is
row_of false o d is = absurd (cc)

pub did_steady : (s : NodeState) (e : Entry) (d : Did) → is_still e.event ≡ true → did_at s e ≡ Some d → Steady d
did_steady s e d still is =
    subst (λ (o : Option Did). IfSome o Steady) (row_of (e.stamp == stamp_of s e.event) (row s e.event) d is) (row_steady s e.event still)
