-- The text of a run: the lines of its prints, the number of its firings, and its end.
use Rattle.std.specs.Prelude.{◌≡◌, ℕ, List, [], ◌∷◌, ◌++◌, length, Some, codes}
use Rattle.std.specs.Fmt.{decimal}
use Rattle.cv_kinds.specs.Net.{Net}
use Rattle.cv_protocol.specs.declared.event.Event.{Event}
use Rattle.cv_protocol.specs.declared.event.Step.{Step}
use Rattle.cv_alone.specs.declared.alone.RunEnd.{RunEnd}
use Rattle.cv_alone.specs.declared.alone.RunEnd.TheVariants as stop
use Rattle.cv_alone.specs.Resting.{run_app}
use Rattle.cv_handover.specs.Runtimes.{firing_at, firings}
use Rattle.cv_solo.specs.OneRuntime.{Runtime, solo}
use Rattle.cv_solo.specs.PrintedText.{IsPrinted}

-- the recorded firings, in recorded order: the actor and the action of each
abbrev pub firings_of : List Step → List (ℕ × ℕ)
firings_of steps = firings run_app steps

-- the firing of one event
abbrev pub firing_of : Event → List (ℕ × ℕ)
firing_of e = firing_at run_app e

abbrev pub end_word : RunEnd → List ℕ
end_word stop.Spent = codes "spent"
end_word stop.Quiescent = codes "quiescent"

-- `firings N`, then `end spent` or `end quiescent`, each a line
abbrev pub last_lines : ℕ → RunEnd → List ℕ
last_lines count s = codes "firings " ++ decimal count ++ 10 ∷ codes "end " ++ end_word s ++ 10 ∷ []

-- the text of a run that made these firings and left the one runtime so
pub record IsTextOf (net : Net) (fired : List (ℕ × ℕ)) (r : Runtime) (s : RunEnd) (text : List ℕ) : Type 0 where
  pub lines : List ℕ
  pub printed : IsPrinted net r.streams lines
  pub is : text ≡ lines ++ last_lines (length fired) s

-- where the one runtime allows the firings, the text is theirs
abbrev pub IsTextWhereDefined : Net → List (ℕ × ℕ) → RunEnd → List ℕ → Type 0
IsTextWhereDefined net fired s text = (r : Runtime) → solo net fired ≡ Some r → IsTextOf net fired r s text
