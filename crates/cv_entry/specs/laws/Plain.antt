-- The events by what they are read from.
use Rattle.cv_protocol.specs.declared.event.Event.{Event}
use Rattle.cv_protocol.specs.declared.event.Event.TheVariants as event

-- of time, a firing, a connection or the end of an application
abbrev pub IsStep : Event → Type 0
IsStep (event.Tick now) = Unit {0}
IsStep (event.Peek actor port) = Unit {0}
IsStep (event.Fire actor action) = Unit {0}
IsStep (event.Pass conn) = Unit {0}
IsStep (event.Send conn) = Unit {0}
IsStep (event.Rewind conn) = Unit {0}
IsStep (event.Destroy app) = Unit {0}
IsStep _ = ⊥

-- of a move
abbrev pub IsMove : Event → Type 0
IsMove (event.Freeze actor to) = Unit {0}
IsMove (event.Resend actor) = Unit {0}
IsMove (event.Withdraw actor) = Unit {0}
IsMove (event.Hint actor attempt node) = Unit {0}
IsMove _ = ⊥

-- with a frame
abbrev pub HasFrame : Event → Type 0
HasFrame (event.Lose frame) = Unit {0}
HasFrame (event.Deliver frame) = Unit {0}
HasFrame _ = ⊥

-- of what the node is told: another node's attributes, or a network
abbrev pub IsTold : Event → Type 0
IsTold (event.Meet node attrs) = Unit {0}
IsTold (event.Deploy name net) = Unit {0}
IsTold _ = ⊥
