-- How many entries a journal has at most, and how many of its entries are firings.
use Rattle.std.specs.Prelude.{ℕ, ◌^◌, Bool, true, false, List, count_by}
use Rattle.cv_protocol.specs.declared.event.Entry.{Entry}
use Rattle.cv_protocol.specs.declared.event.Event.{Event}
use Rattle.cv_protocol.specs.declared.event.Event.TheVariants as event

-- the most entries of a journal
abbrev pub journal_length : ℕ
journal_length = 2 ^ 30

abbrev pub is_firing : Event → Bool
is_firing (event.Fire a action) = true
is_firing (event.Tick now) = false
is_firing (event.Peek a port) = false
is_firing (event.Pass conn) = false
is_firing (event.Meet node attrs) = false
is_firing (event.Deploy name net) = false
is_firing (event.Send conn) = false
is_firing (event.Rewind conn) = false
is_firing (event.Freeze a to) = false
is_firing (event.Resend a) = false
is_firing (event.Withdraw a) = false
is_firing (event.Hint a attempt node) = false
is_firing (event.Destroy app) = false
is_firing (event.Lose f) = false
is_firing (event.Deliver f) = false

-- the number of firings among the events
abbrev pub firing_count_of : List Event → ℕ
firing_count_of events = count_by is_firing events

-- the number of firings among the entries
abbrev pub firing_count : List Entry → ℕ
firing_count entries = count_by (λ (e : Entry). is_firing e.event) entries
