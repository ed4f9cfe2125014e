-- How the run of one node goes on.
use Rattle.std.specs.Prelude.{◌≡◌, ℕ, ◌+◌, ◌≤◌, Bool, true, false, List, [], ◌∷◌, ◌++◌, length}
use Rattle.std.specs.List.{list_all}
use Rattle.cv_token.specs.declared.identifiers.ActorId.{ActorId}
use Rattle.cv_protocol.specs.declared.event.Entry.{Entry}
use Rattle.cv_protocol.specs.declared.event.Event.{Event}
use Rattle.cv_protocol.specs.declared.event.Event.TheVariants as event
use Rattle.cv_actor.specs.declared.act.Polled.{Polled}
use Rattle.cv_actor.specs.declared.act.Polled.TheVariants as polled
use Rattle.cv_node.specs.Counts.{firing_count, is_firing, journal_length}
use Rattle.cv_node.specs.Journalled.{Journalled}
use Rattle.cv_node.specs.Polls.{HasPolled}
use Rattle.cv_alone.specs.declared.sweep.Swept.{Swept}
use Rattle.cv_alone.specs.Resting.{until_from}

-- what a node does by itself once its application is deployed
abbrev pub is_own : Event → Bool
is_own (event.Tick now) = true
is_own (event.Peek a port) = true
is_own (event.Fire a action) = true
is_own (event.Pass conn) = true
is_own (event.Meet node attrs) = false
is_own (event.Deploy name net) = false
is_own (event.Send conn) = false
is_own (event.Rewind conn) = false
is_own (event.Freeze a to) = false
is_own (event.Resend a) = false
is_own (event.Withdraw a) = false
is_own (event.Hint a attempt node) = false
is_own (event.Destroy app) = false
is_own (event.Lose f) = false
is_own (event.Deliver f) = false

-- all of that, but that time goes on
abbrev pub is_prompt : Event → Bool
is_prompt (event.Peek a port) = true
is_prompt (event.Fire a action) = true
is_prompt (event.Pass conn) = true
is_prompt (event.Tick now) = false
is_prompt (event.Meet node attrs) = false
is_prompt (event.Deploy name net) = false
is_prompt (event.Send conn) = false
is_prompt (event.Rewind conn) = false
is_prompt (event.Freeze a to) = false
is_prompt (event.Resend a) = false
is_prompt (event.Withdraw a) = false
is_prompt (event.Hint a attempt node) = false
is_prompt (event.Destroy app) = false
is_prompt (event.Lose f) = false
is_prompt (event.Deliver f) = false

abbrev pub all_may : (Event → Bool) → List Entry → Bool
all_may may entries = list_all (λ (e : Entry). may e.event) entries

abbrev pub are_own : List Entry → Bool
are_own entries = all_may is_own entries

-- a node went on by events that may be, with so many firings
pub record GoesOn (may : Event → Bool) (old new : Journalled) (fired : ℕ) : Type 0 where
  pub more : List Entry
  pub appends : new.entries ≡ old.entries ++ more
  pub own : all_may may more ≡ true
  pub firings : firing_count more ≡ fired
  pub based : new.base ≡ old.base
  pub few : length old.entries ≤ journal_length → length new.entries ≤ journal_length

-- the last entry is a firing
pub record EndsInFiring (entries : List Entry) : Type 0 where
  pub before : List Entry
  pub last : Entry
  pub is : entries ≡ before ++ last ∷ []
  pub fires : is_firing last.event ≡ true

-- what a sweep over the actors did after one more poll
abbrev pub swept_by : Swept → Polled → Swept
swept_by swept (polled.Fired action) = record swept { changed = true; fired = swept.fired + 1 }
swept_by swept (polled.Held port) = record swept { changed = true }
swept_by swept (polled.Waiting lacks) = record swept { due = until_from swept.due lacks }

pub record Polls (old : Journalled) (a : ActorId) (was swept : Swept) (new : Journalled) : Type 0 where
  pub told : Polled
  pub done : HasPolled old a told new
  pub is : swept ≡ swept_by was told
