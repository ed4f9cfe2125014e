-- The events, entries and heads that have a text: those of which each part is in its range.
use Rattle.std.specs.Prelude.{◌≡◌, ℕ, ◌<◌, ◌^◌, true, List, All}
use Rattle.std.specs.Str.{is_utf8}
use Rattle.cv_token.specs.declared.pairs.Pair.{Pair}
use Rattle.cv_token.specs.Rising.{AreRising}
use Rattle.cv_kinds.specs.WellFormed.{IsWellFormed}
use Rattle.cv_rules.specs.Keys.{is_key}
use Rattle.cv_protocol.specs.declared.event.Entry.{Entry}
use Rattle.cv_protocol.specs.declared.event.Event.{Event}
use Rattle.cv_protocol.specs.declared.event.Event.TheVariants as event
use Rattle.cv_frame.specs.Values.{IsCount, IsNode, IsApp, IsActor, IsConn, IsFrame}
use Rattle.cv_entry.specs.declared.head.Head.{Head}

-- a number of an inport or an action
abbrev pub IsPlace : ℕ → Type 0
IsPlace n = n < 2 ^ 8

-- how many actors a node takes
abbrev pub IsRoom : ℕ → Type 0
IsRoom n = n < 2 ^ 16

-- texts, the key of which is GROUP.FIELD
pub record IsAttr (a : Pair (List ℕ)) : Type 0 where
  pub key : is_key a.key ≡ true
  pub letters : is_utf8 a.key ≡ true
  pub text : is_utf8 a.value ≡ true

-- attributes by keys that rise
pub record AreAttrs (attrs : List (Pair (List ℕ))) : Type 0 where
  pub each : All IsAttr attrs
  pub rising : AreRising attrs

abbrev pub IsEvent : Event → Type 0
IsEvent (event.Meet node attrs) = IsNode node × AreAttrs attrs
IsEvent (event.Deploy name net) = (is_utf8 name ≡ true) × IsWellFormed net
IsEvent (event.Tick now) = IsCount now
IsEvent (event.Peek actor port) = IsActor actor × IsPlace port
IsEvent (event.Fire actor action) = IsActor actor × IsPlace action
IsEvent (event.Pass conn) = IsConn conn
IsEvent (event.Send conn) = IsConn conn
IsEvent (event.Rewind conn) = IsConn conn
IsEvent (event.Freeze actor to) = IsActor actor × IsNode to
IsEvent (event.Resend actor) = IsActor actor
IsEvent (event.Withdraw actor) = IsActor actor
IsEvent (event.Hint actor attempt node) = IsActor actor × IsCount attempt × IsNode node
IsEvent (event.Destroy app) = IsApp app
IsEvent (event.Lose frame) = IsFrame frame
IsEvent (event.Deliver frame) = IsFrame frame

pub record IsEntry (e : Entry) : Type 0 where
  pub stamp : IsCount e.stamp
  pub event : IsEvent e.event

-- what stands before a journal's entries; a window is from 1 to 64 as a node's number is
pub record IsHead (h : Head) : Type 0 where
  pub no : IsNode h.spec.no
  pub room : IsRoom h.spec.room
  pub window : IsNode h.spec.window
  pub attrs : AreAttrs h.spec.attrs
  pub dropped : IsCount h.dropped
