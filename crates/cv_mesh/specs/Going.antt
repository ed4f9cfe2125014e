-- How the nodes of a cluster go on.
use Rattle.std.specs.Prelude.{Bool, true, false}
use Rattle.cv_protocol.specs.declared.event.Event.{Event}
use Rattle.cv_protocol.specs.declared.event.Event.TheVariants as event

-- what happens at a node of a run whose actors stay where they are
abbrev pub is_of_run : Event → Bool
is_of_run (event.Meet node attrs) = false
is_of_run (event.Tick now) = true
is_of_run (event.Peek a port) = true
is_of_run (event.Fire a action) = true
is_of_run (event.Pass conn) = true
is_of_run (event.Send conn) = true
is_of_run (event.Rewind conn) = true
is_of_run (event.Lose f) = true
is_of_run (event.Deliver f) = true
is_of_run (event.Deploy name net) = false
is_of_run (event.Freeze a to) = false
is_of_run (event.Resend a) = false
is_of_run (event.Withdraw a) = false
is_of_run (event.Hint a attempt node) = false
is_of_run (event.Destroy app) = false
