-- What holds at every moment of the nodes, of all frames that were ever sent, and of what the rows meant. What no fact says stays
-- unsaid: windows, moments, rooms, what is read, and all hints, which may be false.
use Rattle.std.specs.Prelude.{◌≡◌, ◌≢◌, ◌⊎◌, ℕ, ◌<◌, ◌≤◌, true, List, length, map, drop, slice_get, Option, Some, is_some, option_map, Contains}
use Rattle.std.specs.FinMap as map
use Rattle.cv_token.specs.declared.token.Token.{Token}
use Rattle.cv_token.specs.declared.identifiers.ActorId.{ActorId}
use Rattle.cv_token.specs.declared.identifiers.ConnId.{ConnId}
use Rattle.cv_queue.specs.declared.reader.Reader.{Reader}
use Rattle.cv_queue.specs.Ports.{OutView, IsOutPort, IsInPort, count_of, token_for, received}
use Rattle.cv_protocol.specs.declared.frame.Body.{Body}
use Rattle.cv_protocol.specs.declared.frame.Body.TheVariants as body
use Rattle.cv_protocol.specs.declared.frame.Frame.{Frame}
use Rattle.cv_protocol.specs.declared.frame.Verdict.{Verdict}
use Rattle.cv_protocol.specs.declared.frame.Verdict.TheVariants as verdict
use Rattle.cv_protocol.specs.declared.moving.Frozen.{Frozen}
use Rattle.cv_protocol.specs.declared.moving.Judged.{Judged}
use Rattle.cv_protocol.specs.declared.state.Inlet.{Inlet}
use Rattle.cv_protocol.specs.Actors.{Actor, LiveState}
use Rattle.cv_protocol.specs.NodeState.{NodeState, judged_attempt}
use Rattle.cv_protocol.specs.Owners.{Owners, Nowhere, At, Between}
use Rattle.cv_handover.specs.Meaning.{Nets, Meaning, spec_of, fresh, fed_by, read_by}

-- 1. What is seen of the nodes' tables: functions of node and actor

-- a live actor with its attempt
pub record Living : Type 0 where
  pub actor : Actor
  pub attempt : ℕ

-- a frozen copy with its attempt and its target
pub record Copy : Type 0 where
  pub actor : Actor
  pub attempt : ℕ
  pub target : ℕ

abbrev pub living : LiveState → Living
living l = record { actor = l.actor; attempt = l.attempt }

abbrev pub copy_of : Frozen → Copy
copy_of f = record { actor = f.state.actor; attempt = f.attempt; target = f.target }

abbrev pub lives : (ℕ → NodeState) → ℕ → ActorId → Option Living
lives nodes i a = option_map living (map.get (nodes i).live a)

abbrev pub copies : (ℕ → NodeState) → ℕ → ActorId → Option Copy
copies nodes i a = option_map copy_of (map.get (nodes i).moves.frozen a)

abbrev pub records : (ℕ → NodeState) → ℕ → ActorId → Option Judged
records nodes i a = map.get (nodes i).moves.judged a

-- 2. The history of moves: it only grows, and is in no node

-- an attempt to move an actor: from where, to where, what was sent, and its verdict once its target judged it
pub record Move : Type 0 where
  pub source : ℕ
  pub target : ℕ
  pub state : Actor
  pub verdict : Option Verdict

-- the one copy of each actor, wherever it is; its greatest attempt; and its attempts from 1 on
pub record History : Type 0 where
  pub copy : ActorId → Actor
  pub attempt : ActorId → ℕ
  pub moves : ActorId → ℕ → Move

-- there was such an attempt of the actor
abbrev pub WasTried : History → ActorId → ℕ → Type 0
WasTried h a e = (0 < e) × (e ≤ h.attempt a)

-- 3. Owners and attempts

-- an attempt that leads from i to j with the one copy, and is not accepted yet
pub record IsOpen (h : History) (a : ActorId) (i j e : ℕ) : Type 0 where
  pub newest : e ≡ h.attempt a
  pub tried : 0 < e
  pub source : (h.moves a e).source ≡ i
  pub target : (h.moves a e).target ≡ j
  pub state : (h.moves a e).state ≡ h.copy a
  pub unaccepted : (h.moves a e).verdict ≢ Some verdict.Accepted

pub record Owned (live : ℕ → ActorId → Option Living) (owner : Owners) (h : History) : Type 0 where
  -- the owner has the one copy, with the greatest attempt, and nobody else has the actor
  pub live_at : (a : ActorId) (i : ℕ) → owner a ≡ At i → live i a ≡ Some (record { actor = h.copy a; attempt = h.attempt a })
  pub live_only : (a : ActorId) (i : ℕ) (l : Living) → live i a ≡ Some l → owner a ≡ At i
  -- an actor on its way is on its newest attempt
  pub between : (a : ActorId) (i j e : ℕ) → owner a ≡ Between i j e → IsOpen h a i j e
  -- every attempt is judged but that by which the actor is on its way
  pub settled : (a : ActorId) (i e : ℕ) → owner a ≡ At i → WasTried h a e → is_some (h.moves a e).verdict ≡ true
  pub absent : (a : ActorId) (e : ℕ) → owner a ≡ Nowhere → WasTried h a e → is_some (h.moves a e).verdict ≡ true
  pub past_judged : (a : ActorId) (e : ℕ) → 0 < e → e < h.attempt a → is_some (h.moves a e).verdict ≡ true

-- a frozen copy is that of its attempt, and the owner's, unless the attempt was accepted
pub record IsCopy (owner : Owners) (h : History) (a : ActorId) (k : ℕ) (f : Copy) : Type 0 where
  pub tried : WasTried h a f.attempt
  pub source : (h.moves a f.attempt).source ≡ k
  pub target : (h.moves a f.attempt).target ≡ f.target
  pub state : (h.moves a f.attempt).state ≡ f.actor
  pub owned : (owner a ≡ Between k f.target f.attempt) ⊎ ((h.moves a f.attempt).verdict ≡ Some verdict.Accepted)

-- a verdict is that of an attempt towards this node
pub record IsVerdict (h : History) (a : ActorId) (e k : ℕ) (v : Verdict) : Type 0 where
  pub tried : WasTried h a e
  pub target : (h.moves a e).target ≡ k
  pub verdict : (h.moves a e).verdict ≡ Some v

pub record Kept (frozen : ℕ → ActorId → Option Copy) (judged : ℕ → ActorId → Option Judged) (owner : Owners) (h : History) : Type 0 where
  pub frozen_ok : (k : ℕ) (a : ActorId) (f : Copy) → frozen k a ≡ Some f → IsCopy owner h a k f
  pub judged_ok : (k : ℕ) (a : ActorId) (j : Judged) (v : Verdict) → judged k a ≡ Some j → j.verdict ≡ Some v → IsVerdict h a j.attempt k v
  -- a judged attempt is at most its target's record
  pub judged_high : (a : ActorId) (e : ℕ) → WasTried h a e → is_some (h.moves a e).verdict ≡ true → e ≤ judged_attempt (judged (h.moves a e).target a)

-- 4. Streams: the one copy of each actor against the one runtime

-- the one copy of an actor is the network's actor, with the one runtime's slots
pub record IsAlike (n : Nets) (m : Meaning) (a : ActorId) (x : Actor) : Type 0 where
  pub spec : x.spec ≡ spec_of n a
  pub slots : x.slots ≡ m.slots a
  pub fed : map fed_by x.ins ≡ map fed_by (fresh n a).ins
  pub read : map read_by x.outs ≡ map read_by (fresh n a).outs

-- an inport holds what came and was not taken
pub record InAgrees (m : Meaning) (i : Inlet) : Type 0 where
  pub port : IsInPort i.port
  pub taken : i.port.taken ≡ m.took i.conn
  pub held : i.port.held ≡ drop (m.took i.conn) (m.got i.conn)
  pub arrived : received i.port ≡ length (m.got i.conn)

-- a reader of an outport: each of its tokens that is held is the one that was written for it, and it acknowledged no more than
-- its consumer got
pub record ReaderAgrees (m : Meaning) (o : OutView) (k : ℕ) (r : Reader) : Type 0 where
  pub counted : count_of o k ≡ length (m.wrote r.conn)
  pub kept : (i : ℕ) (t : Token) → token_for o k i ≡ Some t → slice_get (m.wrote r.conn) i ≡ Some t
  pub confirmed : r.acked ≤ length (m.got r.conn)

pub record OutAgrees (m : Meaning) (o : OutView) : Type 0 where
  pub port : IsOutPort o
  pub readers : (k : ℕ) (r : Reader) → slice_get o.readers k ≡ Some r → ReaderAgrees m o k r

pub record ActorAgrees (n : Nets) (m : Meaning) (a : ActorId) (x : Actor) : Type 0 where
  pub alike : IsAlike n m a x
  pub ins : (p : ℕ) (i : Inlet) → slice_get x.ins p ≡ Some (Some i) → InAgrees m i
  pub outs : (q : ℕ) (o : OutView) → slice_get x.outs q ≡ Some o → OutAgrees m o

pub record Streams (n : Nets) (m : Meaning) (copy : ActorId → Actor) : Type 0 where
  pub actors : (a : ActorId) → ActorAgrees n m a (copy a)
  -- what a consumer got begins what was written for it, and it took no more than it got
  pub ordered : (c : ConnId) (i : ℕ) (t : Token) → slice_get (m.got c) i ≡ Some t → slice_get (m.wrote c) i ≡ Some t
  pub taken : (c : ConnId) → m.took c ≤ length (m.got c)

-- 5. Frames: all that was ever sent

pub record IsTransfer (h : History) (a : ActorId) (e i j : ℕ) (x : Actor) : Type 0 where
  pub tried : WasTried h a e
  pub source : (h.moves a e).source ≡ i
  pub target : (h.moves a e).target ≡ j
  pub state : (h.moves a e).state ≡ x

pub record IsCancel (h : History) (a : ActorId) (e j : ℕ) : Type 0 where
  pub tried : WasTried h a e
  pub target : (h.moves a e).target ≡ j

-- what a frame says is true, and stays so
abbrev pub SaysTrue : Meaning → History → Frame → Body → Type 0
SaysTrue m h f (body.Token c a n t) = slice_get (m.wrote c) n ≡ Some t
SaysTrue m h f (body.Ack c a upto) = upto ≤ length (m.got c)
SaysTrue m h f (body.Nack c a upto) = upto ≤ length (m.got c)
SaysTrue m h f (body.Transfer a e state) = IsTransfer h a e f.from f.to state.actor
SaysTrue m h f (body.Verdict a e v) = IsVerdict h a e f.from v
SaysTrue m h f (body.Cancel a e) = IsCancel h a e f.to
SaysTrue m h f (body.Located a e node) = Unit {0}
SaysTrue m h f (body.Destroy app) = Unit {0}

abbrev pub Sent : Meaning → History → List Frame → Type 0
Sent m h frames = (f : Frame) → Contains frames f → SaysTrue m h f f.body

-- 6. Applications that are not deployed yet

-- nobody has heard of the actor
pub record IsUnheard (n : Nets) (m : Meaning) (h : History) (a : ActorId) : Type 0 where
  pub owner : m.owner a ≡ Nowhere
  pub attempt : h.attempt a ≡ 0
  pub copy : h.copy a ≡ fresh n a

-- each node has its number; the applications that it will deploy are unheard of
pub record Numbered (n : Nets) (nodes : ℕ → NodeState) (m : Meaning) (h : History) : Type 0 where
  pub number : (i : ℕ) → (nodes i).spec.no ≡ i
  pub unheard : (a : ActorId) → (nodes a.app.node).known.deployed < a.app.seq → IsUnheard n m h a

-- 7. All of it

pub record Agree (n : Nets) (nodes : ℕ → NodeState) (frames : List Frame) (m : Meaning) (h : History) : Type 0 where
  pub numbered : Numbered n nodes m h
  pub owned : Owned (lives nodes) m.owner h
  pub kept : Kept (copies nodes) (records nodes) m.owner h
  pub streams : Streams n m h.copy
  pub sent : Sent m h frames
