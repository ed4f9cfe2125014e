-- The token tree of each event, of an entry, and of a journal's head.
use Rattle.std.specs.Prelude.{ℕ, List, [], ◌∷◌, map, codes}
use Rattle.cv_token.specs.declared.pairs.Pair.{Pair}
use Rattle.cv_token.specs.declared.token.Token.{Token}
use Rattle.cv_token.specs.declared.token.Token.TheVariants as token
use Rattle.cv_network.specs.Written.{network_token}
use Rattle.cv_protocol.specs.declared.event.Entry.{Entry}
use Rattle.cv_protocol.specs.declared.event.Event.{Event}
use Rattle.cv_protocol.specs.declared.event.Event.TheVariants as event
use Rattle.cv_frame.specs.Trees.{number, word, app_tree, actor_tree, conn_tree, frame_tree}
use Rattle.cv_entry.specs.declared.head.Head.{Head}

-- an attribute of a node: a text under its key
abbrev pub attr_member : Pair (List ℕ) → Pair Token
attr_member a = record { key = a.key; value = word a.value }

-- a dictionary of texts
abbrev pub attrs_tree : List (Pair (List ℕ)) → Token
attrs_tree attrs = token.Dict (map attr_member attrs)

-- the event's name and its fields, in the order of the node table
abbrev pub event_tree : Event → Token
event_tree (event.Meet node attrs) = token.List (word (codes "meet") ∷ number node ∷ attrs_tree attrs ∷ [])
event_tree (event.Deploy name net) = token.List (word (codes "deploy") ∷ word name ∷ network_token net ∷ [])
event_tree (event.Tick now) = token.List (word (codes "tick") ∷ number now ∷ [])
event_tree (event.Peek actor port) = token.List (word (codes "peek") ∷ actor_tree actor ∷ number port ∷ [])
event_tree (event.Fire actor action) = token.List (word (codes "fire") ∷ actor_tree actor ∷ number action ∷ [])
event_tree (event.Pass conn) = token.List (word (codes "pass") ∷ conn_tree conn ∷ [])
event_tree (event.Send conn) = token.List (word (codes "send") ∷ conn_tree conn ∷ [])
event_tree (event.Rewind conn) = token.List (word (codes "rewind") ∷ conn_tree conn ∷ [])
event_tree (event.Freeze actor to) = token.List (word (codes "freeze") ∷ actor_tree actor ∷ number to ∷ [])
event_tree (event.Resend actor) = token.List (word (codes "resend") ∷ actor_tree actor ∷ [])
event_tree (event.Withdraw actor) = token.List (word (codes "withdraw") ∷ actor_tree actor ∷ [])
event_tree (event.Hint actor attempt node) =
    token.List (word (codes "hint") ∷ actor_tree actor ∷ number attempt ∷ number node ∷ [])
event_tree (event.Destroy app) = token.List (word (codes "destroy") ∷ app_tree app ∷ [])
event_tree (event.Lose frame) = token.List (word (codes "lose") ∷ frame_tree frame ∷ [])
event_tree (event.Deliver frame) = token.List (word (codes "deliver") ∷ frame_tree frame ∷ [])

-- `[STAMP,EVENT]`
abbrev pub entry_tree : Entry → Token
entry_tree e = token.List (number e.stamp ∷ event_tree e.event ∷ [])

-- `["node",NO,ROOM,WINDOW,ATTRS,DROPPED]`
abbrev pub head_tree : Head → Token
head_tree h = token.List (
    word (codes "node")
    ∷ number h.spec.no
    ∷ number h.spec.room
    ∷ number h.spec.window
    ∷ attrs_tree h.spec.attrs
    ∷ number h.dropped
    ∷ [])
