-- What a turn of a run does.
use Rattle.std.specs.Prelude.{◌≡◌, ℕ, ◌<◌, ◌≤◌, length, Option, Some, None}
use Rattle.cv_node.specs.Journalled.{Journalled}
use Rattle.cv_alone.specs.Going.{EndsInFiring, GoesOn, is_own}
use Rattle.cv_alone.specs.Resting.{IsPatient, Quiet}

-- a journal stays one in which time goes on only where nothing else can happen
abbrev pub StaysPatient : ℕ → ℕ → Journalled → Journalled → Type 0
StaysPatient actors connections old new =
    IsPatient actors connections old.base old.entries → IsPatient actors connections new.base new.entries

-- so many fired, and the journal grew, by a firing last where these are all that were allowed; or nothing changed, since nothing can happen
abbrev pub Turns : Journalled → ℕ → ℕ → ℕ → Option ℕ → Journalled → Type 0
Turns old actors connections most (Some fired) new =
    (fired ≤ most) × GoesOn is_own old new fired × (length old.entries < length new.entries) × StaysPatient actors connections old new × (fired ≡ most → EndsInFiring new.entries)
Turns old actors connections most None new = (new ≡ old) × Quiet old.state actors connections
