-- The token tree of each value that travels. A text on the wire is the text of such a tree.
use Rattle.std.specs.Prelude.{ℕ, pos, min, List, [], ◌∷◌, map, take, codes, Option, Some, None}
use Rattle.cv_token.specs.declared.identifiers.ActorId.{ActorId}
use Rattle.cv_token.specs.declared.identifiers.AppId.{AppId}
use Rattle.cv_token.specs.declared.identifiers.ConnId.{ConnId}
use Rattle.cv_token.specs.declared.pairs.Pair.{Pair}
use Rattle.cv_token.specs.declared.token.Token.{Token}
use Rattle.cv_token.specs.declared.token.Token.TheVariants as token
use Rattle.cv_queue.specs.declared.reader.Reader.{Reader}
use Rattle.cv_queue.specs.declared.reader.Subscription.{Subscription}
use Rattle.cv_queue.specs.Ports.{OutView}
use Rattle.cv_kinds.specs.declared.network.ActorSpec.{ActorSpec}
use Rattle.cv_kinds.specs.Table.{line_of}
use Rattle.cv_protocol.specs.Actors.{StateView}
use Rattle.cv_protocol.specs.declared.state.Hint.{Hint}
use Rattle.cv_protocol.specs.declared.state.Inlet.{Inlet}
use Rattle.cv_protocol.specs.declared.frame.Body.{Body}
use Rattle.cv_protocol.specs.declared.frame.Body.TheVariants as body
use Rattle.cv_protocol.specs.declared.frame.Frame.{Frame}
use Rattle.cv_protocol.specs.declared.frame.Verdict.{Verdict}
use Rattle.cv_protocol.specs.declared.frame.Verdict.TheVariants as verdict

-- the greatest number that a token holds
abbrev pub greatest : ℕ
greatest = 9223372036854775807

-- a number; all that travel are below 2^62, and one that no token holds has no text of its own
abbrev pub number : ℕ → Token
number n = token.Int (pos (min n greatest))

abbrev pub word : List ℕ → Token
word s = token.Text s

-- 1. Identifiers

-- `[node,seq]`
abbrev pub app_tree : AppId → Token
app_tree a = token.List (number a.node ∷ number a.seq ∷ [])

-- `[node,seq,actor]`
abbrev pub actor_tree : ActorId → Token
actor_tree a = token.List (number a.app.node ∷ number a.app.seq ∷ number a.actor ∷ [])

-- `[node,seq,place]`
abbrev pub conn_tree : ConnId → Token
conn_tree c = token.List (number c.app.node ∷ number c.app.seq ∷ number c.place ∷ [])

-- 2. States

-- null where nothing feeds the inport, else connection, producer, how many tokens were taken, and those held
abbrev pub inlet_tree : Option Inlet → Token
inlet_tree None = token.Null
inlet_tree (Some i) =
    token.List (conn_tree i.conn ∷ actor_tree i.producer ∷ number i.port.taken ∷ token.List i.port.held ∷ [])

-- connection, consumer, and how many tokens it has acknowledged
abbrev pub reader_tree : Reader → Token
reader_tree r = token.List (conn_tree r.conn ∷ actor_tree r.consumer ∷ number r.acked ∷ [])

-- the same of a reader to be
abbrev pub subscription_tree : Subscription → Token
subscription_tree s = token.List (conn_tree s.conn ∷ actor_tree s.consumer ∷ number s.acked ∷ [])

-- the most readers of a port that travels; the text of more is longer than any frame
unfoldable pub most_readers : ℕ
most_readers = 65535

-- how many tokens were written, those held, and the readers
abbrev pub out_tree : OutView → Token
out_tree o =
    token.List (number o.write ∷ token.List o.held ∷ token.List (map reader_tree (take most_readers o.readers)) ∷ [])

abbrev pub hint_tree : Hint → Token
hint_tree h = token.List (actor_tree h.actor ∷ number h.attempt ∷ number h.node ∷ [])

-- path, kind and arguments of an actor
abbrev pub spec_trees : ActorSpec → Token × (Token × Token)
spec_trees s = (word s.path, (word (line_of s.kind).name, token.List s.args))

-- format, path, kind, arguments, slots, wait, rule (null: nothing is asked), inports, outports, hints
abbrev pub state_tree : StateView → Token
state_tree s = token.List (
    word (codes "cs1")
    ∷ word s.actor.spec.path
    ∷ word (line_of s.actor.spec.kind).name
    ∷ token.List s.actor.spec.args
    ∷ token.List s.actor.slots
    ∷ number s.wait
    ∷ token.Null
    ∷ token.List (map inlet_tree s.actor.ins)
    ∷ token.List (map out_tree s.actor.outs)
    ∷ token.List (map hint_tree s.hints)
    ∷ [])

-- 3. Frames

-- 0 to 4
abbrev pub verdict_number : Verdict → ℕ
verdict_number verdict.Accepted = 0
verdict_number verdict.Unfit = 1
verdict_number verdict.Full = 2
verdict_number verdict.Gone = 3
verdict_number verdict.Cancelled = 4

abbrev pub body_tree : Body → Token
body_tree (body.Token conn actor n t) =
    token.List (word (codes "token") ∷ conn_tree conn ∷ actor_tree actor ∷ number n ∷ t ∷ [])
body_tree (body.Ack conn actor upto) =
    token.List (word (codes "ack") ∷ conn_tree conn ∷ actor_tree actor ∷ number upto ∷ [])
body_tree (body.Nack conn actor upto) =
    token.List (word (codes "nack") ∷ conn_tree conn ∷ actor_tree actor ∷ number upto ∷ [])
body_tree (body.Transfer actor attempt state) =
    token.List (word (codes "transfer") ∷ actor_tree actor ∷ number attempt ∷ state_tree state ∷ [])
body_tree (body.Verdict actor attempt v) =
    token.List (word (codes "verdict") ∷ actor_tree actor ∷ number attempt ∷ number (verdict_number v) ∷ [])
body_tree (body.Cancel actor attempt) = token.List (word (codes "cancel") ∷ actor_tree actor ∷ number attempt ∷ [])
body_tree (body.Located actor attempt node) =
    token.List (word (codes "located") ∷ actor_tree actor ∷ number attempt ∷ number node ∷ [])
body_tree (body.Destroy app) = token.List (word (codes "destroy") ∷ app_tree app ∷ [])

abbrev pub member : List ℕ → Token → Pair Token
member key value = record { key = key; value = value }

-- `{"body":BODY,"from":F,"stamp":S,"to":T}`
abbrev pub frame_tree : Frame → Token
frame_tree f = token.Dict (
    member (codes "body") (body_tree f.body)
    ∷ member (codes "from") (number f.from)
    ∷ member (codes "stamp") (number f.stamp)
    ∷ member (codes "to") (number f.to)
    ∷ [])
