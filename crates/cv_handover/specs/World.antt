-- The nodes together, and every frame that was ever sent.
use Rattle.std.specs.Prelude.{ℕ, ◌==◌, if◌then◌else◌, List, ◌++◌, Option, Some, None, Contains}
use Rattle.cv_protocol.specs.declared.event.Event.{Event}
use Rattle.cv_protocol.specs.declared.frame.Frame.{Frame}
use Rattle.cv_protocol.specs.NodeState.{NodeState}
use Rattle.cv_protocol.specs.Rows.{Did}
use Rattle.cv_protocol.specs.Journals.{got_frame}

pub record World : Type 0 where
  pub nodes : ℕ → NodeState
  pub frames : List Frame

-- the function with another value at i
unfoldable pub at : {X : Type 0} → (ℕ → X) → ℕ → X → ℕ → X
at f i x k = if k == i then x else f k

-- what the world is after a row at node i
abbrev pub after : World → ℕ → Did → World
after w i d = record { nodes = at w.nodes i d.next; frames = d.sends ++ w.frames }

-- a frame that comes was sent at some time: it may come late, again or never
abbrev pub IsAmong : List Frame → Option Frame → Type 0
IsAmong frames None = Unit {0}
IsAmong frames (Some f) = Contains frames f

abbrev pub Came : World → Event → Type 0
Came w e = IsAmong w.frames (got_frame e)
