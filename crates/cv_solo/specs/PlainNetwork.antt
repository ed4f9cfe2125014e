-- The plain meaning of a network: rounds, in each of which every actor, in order, fires its first ready action once.
use Rattle.std.specs.Prelude.{◌≡◌, ℕ, zero, suc, ◌<◌, ◌≤◌, Bool, if◌then◌else◌, List, [], ◌++◌, length, take, slice_get, Option, Some, None, option_and_then, option_map, option_to_list, unwrap_or}
use Rattle.std.specs.Option.{option_map_or}
use Rattle.cv_behave.specs.KindRow.{action_count}
use Rattle.cv_kinds.specs.KindRow.{row_of}
use Rattle.cv_kinds.specs.Net.{Net}
use Rattle.cv_solo.specs.OneRuntime.{Runtime, fire, opening, ready_of, slots_of, solo_from}

-- the first of `count` numbers from a number on that passes the test
abbrev pub first_from : (ℕ → Bool) → ℕ → ℕ → Option ℕ
first_from test from zero = None
first_from test from (suc count) = if test from then Some from else first_from test (suc from) count

-- an actor's first action that is ready
abbrev pub first_ready : Net → Runtime → ℕ → Option ℕ
first_ready net r actor =
    option_and_then (λ spec. first_from (λ action. ready_of spec net.connections actor action (slots_of r actor) r.streams) 0 (action_count (row_of spec.kind))) (slice_get net.actors actor)

-- how many actions an actor has
abbrev pub actions_of : Net → ℕ → ℕ
actions_of net actor = option_map_or (λ spec. action_count (row_of spec.kind)) (slice_get net.actors actor) 0

-- an actor's turn: it fires that action, or nothing happens
abbrev pub turn : Net → Runtime → ℕ → Runtime
turn net r actor = unwrap_or (option_and_then (λ action. fire net r actor action) (first_ready net r actor)) r

-- the turns of `count` actors from a number on
abbrev pub turns : Net → Runtime → ℕ → ℕ → Runtime
turns net r from zero = r
turns net r from (suc count) = turns net (turn net r from) (suc from) count

abbrev pub round : Net → Runtime → Runtime
round net r = turns net r 0 (length net.actors)

abbrev pub rounds : Net → Runtime → ℕ → Runtime
rounds net r zero = r
rounds net r (suc n) = rounds net (round net r) n

-- the machine after n rounds
abbrev pub plain : Net → ℕ → Runtime
plain net n = rounds net (opening net) n

-- what is fired in these turns: the actor and the action of each firing, in order
abbrev pub firings_in : Net → Runtime → ℕ → ℕ → List (ℕ × ℕ)
firings_in net r from zero = []
firings_in net r from (suc count) = option_to_list (option_map (λ action. (from, action)) (first_ready net r from)) ++ firings_in net (turn net r from) (suc from) count

abbrev pub round_firings : Net → Runtime → List (ℕ × ℕ)
round_firings net r = firings_in net r 0 (length net.actors)

-- the first n firings of a round
pub record Begins (net : Net) (before : Runtime) (n : ℕ) (after : Runtime) : Type 0 where
  pub few : n ≤ length (round_firings net before)
  pub fired : solo_from net before (take n (round_firings net before)) ≡ Some after

-- what the first n rounds fire
abbrev pub rounds_firings : Net → Runtime → ℕ → List (ℕ × ℕ)
rounds_firings net r zero = []
rounds_firings net r (suc n) = round_firings net r ++ rounds_firings net (round net r) n

-- no action of any actor is ready
abbrev pub IsIdle : Net → Runtime → Type 0
IsIdle net r = (actor : ℕ) → actor < length net.actors → first_ready net r actor ≡ None

-- the first `most` firings of the rounds, or all where no action is ready any more, and the machine after them
pub record IsPlainRun (net : Net) (most : ℕ) (firings : List (ℕ × ℕ)) (after : Runtime) : Type 0 where
  pub count : ℕ
  pub first : firings ≡ take most (rounds_firings net (opening net) count)
  pub few : length firings ≤ most
  pub defined : solo_from net (opening net) firings ≡ Some after
