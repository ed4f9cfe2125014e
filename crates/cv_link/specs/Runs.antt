-- Whole runs of a plan, turn by turn.
use Rattle.std.specs.Prelude.{ℕ, ◌+◌, ◌^◌, ◌<◌, List, [], ◌∷◌, ◌++◌, length}
use Rattle.cv_protocol.specs.declared.frame.Frame.{Frame}
use Rattle.cv_link.specs.declared.plan.Taken.{Taken}
use Rattle.cv_link.specs.declared.items.Item.{Item}
use Rattle.cv_link.specs.Items.{link_of}
use Rattle.cv_link.specs.Plan.{PlanView, Tells, new_plan, counted, turned}
use Rattle.cv_link.specs.Planned.{IsAsPlanned}

-- The frames that were taken in one turn, each with what was told of it.
abbrev pub Turn : Type 0
Turn = List (Frame × Taken)

-- The plan tells that of the frames of a turn.
abbrev pub TellsTurn : PlanView → Turn → Type 0
TellsTurn p [] = Unit {0}
TellsTurn p (e ∷ es) = Tells p e.0 e.1 × TellsTurn (counted p) es

-- The plan once the turn has ended.
abbrev pub after_turn : PlanView → Turn → PlanView
after_turn p [] = turned p
after_turn p (e ∷ es) = after_turn (counted p) es

-- The plan tells that in these turns.
abbrev pub TellsRun : PlanView → List Turn → Type 0
TellsRun p [] = Unit {0}
TellsRun p (t ∷ ts) = TellsTurn p t × TellsRun (after_turn p t) ts

abbrev pub frames_in : List Turn → ℕ
frames_in [] = 0
frames_in (t ∷ ts) = length t + frames_in ts

-- Whatever items the words have and whatever run the plan of one of their links had from its start: each frame is judged as the items
-- say, by its number, counted from 1 over the whole run, and by the number of the first frame of its turn. Numbers of 64 bits are
-- enough for any run.
abbrev pub EachAsPlanned : Type 0
EachAsPlanned =
    (items : List Item) (from to : ℕ) (before : List Turn) (front : Turn) (frame : Frame) (told : Taken) (rest : Turn) (after : List Turn)
    → TellsRun (new_plan (link_of from to items)) (before ++ (front ++ (frame, told) ∷ rest) ∷ after)
    → frames_in before + length front + 1 < 2 ^ 64
    → IsAsPlanned items from to (frames_in before + 1) (frames_in before + length front + 1) frame told
