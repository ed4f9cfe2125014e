-- The rows of the kinds of flow, one by one.
use Rattle.std.specs.Prelude.{ℕ, Bool, true, false, not, ◌&&◌, List, [], ◌∷◌, Some, None}
use Rattle.cv_token.specs.declared.token.Token.{Token}
use Rattle.cv_token.specs.declared.token.Token.TheVariants as token
use Rattle.std.specs.Prelude.{pos}
use Rattle.cv_behave.specs.KindRow.{Action, Row, leaves}
use Rattle.cv_behave.specs.Values.{fallen, fitted, grown, is_int, is_number, is_true, item_of, list_of, next_number, sum_of}
use Rattle.cv_flow.specs.declared.kind.FlowKind.{FlowKind}
use Rattle.cv_flow.specs.declared.kind.FlowKind.TheVariants as kind
use Rattle.cv_flow.specs.Values.{milliseconds, is_positive, is_below_length, element, batch_size, elements, is_empty, without_first, taken_apart, is_last, is_before_last, first_of_two, second_of_two, is_repeated}
use Rattle.cv_behave.specs.declared.behave.Effect.{Effect}

-- an action: what it needs of each inport, what it gives to each outport, its guard on arguments, state and head, and its
-- effect on arguments, state and heads
abbrev pub acts : List ℕ → List ℕ → (List Token → List Token → Token → Bool) → (List Token → List Token → List Token → Effect) → Action
acts needs gives guard effect = record { needs = λ args. needs; gives = gives; timed = false; guard = guard; effect = effect }

abbrev pub timed_acts : List ℕ → List ℕ → (List Token → List Token → Token → Bool) → (List Token → List Token → List Token → Effect) → Action
timed_acts needs gives guard effect = record { needs = λ args. needs; gives = gives; timed = true; guard = guard; effect = effect }

abbrev pub always : List Token → List Token → Token → Bool
always args state head = true

-- a row with no timed action and no guard port
abbrev pub untimed : ℕ → ℕ → (List Token → List Token) → List Action → Row
untimed inports outports start actions = record { inports = inports; outports = outports; guard_port = None; pause = λ args. 0; start = start; actions = actions }

-- the same with a timed action; the duration is the first argument
abbrev pub timed : ℕ → ℕ → (List Token → List Token) → List Action → Row
timed inports outports start actions = record { inports = inports; outports = outports; guard_port = None; pause = λ args. milliseconds (item_of args 0); start = start; actions = actions }

-- the same with inport 0 as guard port
abbrev pub guarded : ℕ → ℕ → (List Token → List Token) → List Action → Row
guarded inports outports start actions = record { inports = inports; outports = outports; guard_port = Some 0; pause = λ args. 0; start = start; actions = actions }

abbrev pub no_state : List Token → List Token
no_state args = []

-- one token to the one outport, or none
abbrev pub gives : List Token → Token → Effect
gives state t = leaves state (Some t ∷ [])

abbrev pub gives_none : List Token → Effect
gives_none state = leaves state (None ∷ [])

-- data, n; left
-- send: writes data while left is not 0; a positive left falls by 1
abbrev pub constant : Row
constant = untimed 0 1 (λ args. item_of args 1 ∷ [])
    (acts [] (1 ∷ []) (λ args state head. not (is_number 0 (item_of state 0)))
    (λ args state heads. gives (fallen (item_of state 0) ∷ []) (item_of args 0))
    ∷ [])

-- start; next
-- send: writes next while it is an Int; then next + 1, or null past the type's end
abbrev pub counter : Row
counter = untimed 0 1 (λ args. item_of args 0 ∷ [])
    (acts [] (1 ∷ []) (λ args state head. is_int (item_of state 0))
    (λ args state heads. gives (next_number (item_of state 0) ∷ []) (item_of state 0))
    ∷ [])

-- sleep, start, steps; next, left
-- send*: as counter, while left is not 0, which falls as in constant
abbrev pub count_timer : Row
count_timer = timed 0 1 (λ args. item_of args 1 ∷ item_of args 2 ∷ [])
    (timed_acts [] (1 ∷ []) (λ args state head. is_int (item_of state 0) && not (is_number 0 (item_of state 1)))
    (λ args state heads. gives (next_number (item_of state 0) ∷ fallen (item_of state 1) ∷ []) (item_of state 0))
    ∷ [])

-- dump; no state
-- pass: writes x
abbrev pub identity : Row
identity = untimed 1 1 no_state
    (acts (1 ∷ []) (1 ∷ []) always (λ args state heads. gives [] (item_of heads 0))
    ∷ [])

-- data; i
-- send: writes element i while i is below the length; then i + 1
abbrev pub sequence : Row
sequence = untimed 0 1 (λ args. token.Int (pos 0) ∷ [])
    (acts [] (1 ∷ []) (λ args state head. is_below_length (item_of state 0) (list_of (item_of args 0)))
    (λ args state heads. gives (next_number (item_of state 0) ∷ []) (element (item_of state 0) (list_of (item_of args 0))))
    ∷ [])

-- tick, data; no state
-- send*: writes data
abbrev pub trigger : Row
trigger = timed 0 1 no_state
    (timed_acts [] (1 ∷ []) always (λ args state heads. gives [] (item_of args 1))
    ∷ [])

-- delay; full, kept
-- give*: when full, writes kept; full = false, kept = null
-- take: when not full, keeps x; full = true
abbrev pub delay : Row
delay = timed 1 1 (λ args. token.Bool false ∷ token.Null ∷ [])
    (timed_acts (0 ∷ []) (1 ∷ []) (λ args state head. is_true (item_of state 0))
    (λ args state heads. gives (token.Bool false ∷ token.Null ∷ []) (item_of state 1))
    ∷ acts (1 ∷ []) (0 ∷ []) (λ args state head. not (is_true (item_of state 0)))
    (λ args state heads. gives_none (token.Bool true ∷ item_of heads 0 ∷ []))
    ∷ [])

-- acc
-- add: acc + x where that has 64 bits: acc grows and is written; else null is written
abbrev pub sum : Row
sum = untimed 1 1 (λ args. token.Int (pos 0) ∷ [])
    (acts (1 ∷ []) (1 ∷ []) always
    (λ args state heads. gives (grown (sum_of (item_of state 0) (item_of heads 0)) (item_of state 0) ∷ []) (sum_of (item_of state 0) (item_of heads 0)))
    ∷ [])

-- n
-- count: n + 1, written; past the type's end n stays and null is written
abbrev pub tally : Row
tally = untimed 1 1 (λ args. token.Int (pos 0) ∷ [])
    (acts (1 ∷ []) (1 ∷ []) always
    (λ args state heads. gives (grown (next_number (item_of state 0)) (item_of state 0) ∷ []) (next_number (item_of state 0)))
    ∷ [])

-- no state
-- print, or drop: takes a token
abbrev pub sink : Row
sink = untimed 1 0 no_state
    (acts (1 ∷ []) [] always (λ args state heads. leaves [] [])
    ∷ [])

-- data; done
-- first: when not done, writes data; done = true
-- pass: when done, writes x
abbrev pub init : Row
init = untimed 1 1 (λ args. token.Bool false ∷ [])
    (acts (0 ∷ []) (1 ∷ []) (λ args state head. not (is_true (item_of state 0)))
    (λ args state heads. gives (token.Bool true ∷ []) (item_of args 0))
    ∷ acts (1 ∷ []) (1 ∷ []) (λ args state head. is_true (item_of state 0))
    (λ args state heads. gives (item_of state 0 ∷ []) (item_of heads 0))
    ∷ [])

-- no state
-- one: passes a token of token_1; two: passes one of token_2
abbrev pub join : Row
join = untimed 2 1 no_state
    (acts (1 ∷ 0 ∷ []) (1 ∷ []) always (λ args state heads. gives [] (item_of heads 0))
    ∷ acts (0 ∷ 1 ∷ []) (1 ∷ []) always (λ args state heads. gives [] (item_of heads 0))
    ∷ [])

-- whether it is the turn of number n
abbrev pub turn : ℕ → List Token → List Token → Token → Bool
turn n args state head = is_number n (item_of state 0)

-- then it is the turn of number n
abbrev pub turn_is : ℕ → List Token
turn_is n = token.Int (pos n) ∷ []

-- t
-- one: when t = 0, passes a token of token_1; t = 1. two: when t = 1, passes one of token_2; t = 0
abbrev pub alternate2 : Row
alternate2 = untimed 2 1 (λ args. turn_is 0)
    (acts (1 ∷ 0 ∷ []) (1 ∷ []) (turn 0) (λ args state heads. gives (turn_is 1) (item_of heads 0))
    ∷ acts (0 ∷ 1 ∷ []) (1 ∷ []) (turn 1) (λ args state heads. gives (turn_is 0) (item_of heads 0))
    ∷ [])

-- t
-- the same with three inports
abbrev pub alternate3 : Row
alternate3 = untimed 3 1 (λ args. turn_is 0)
    (acts (1 ∷ 0 ∷ 0 ∷ []) (1 ∷ []) (turn 0) (λ args state heads. gives (turn_is 1) (item_of heads 0))
    ∷ acts (0 ∷ 1 ∷ 0 ∷ []) (1 ∷ []) (turn 1) (λ args state heads. gives (turn_is 2) (item_of heads 0))
    ∷ acts (0 ∷ 0 ∷ 1 ∷ []) (1 ∷ []) (turn 2) (λ args state heads. gives (turn_is 0) (item_of heads 0))
    ∷ [])

-- t
-- one: when t = 0, a token to token_1; t = 1. two: when t = 1, a token to token_2; t = 0
abbrev pub dealternate2 : Row
dealternate2 = untimed 1 2 (λ args. turn_is 0)
    (acts (1 ∷ []) (1 ∷ 0 ∷ []) (turn 0) (λ args state heads. leaves (turn_is 1) (Some (item_of heads 0) ∷ None ∷ []))
    ∷ acts (1 ∷ []) (0 ∷ 1 ∷ []) (turn 1) (λ args state heads. leaves (turn_is 0) (None ∷ Some (item_of heads 0) ∷ []))
    ∷ [])

-- no state; the guard looks at select
-- yes: when select is true, data to case_true; no: when it is not true, data to case_false
abbrev pub select : Row
select = guarded 2 2 no_state
    (acts (1 ∷ 1 ∷ []) (1 ∷ 0 ∷ []) (λ args state head. is_true head) (λ args state heads. leaves [] (Some (item_of heads 1) ∷ None ∷ []))
    ∷ acts (1 ∷ 1 ∷ []) (0 ∷ 1 ∷ []) (λ args state head. not (is_true head)) (λ args state heads. leaves [] (None ∷ Some (item_of heads 1) ∷ []))
    ∷ [])

-- no state; the guard looks at switch
-- one: when switch is true, writes a; two: when it is not true, writes b
abbrev pub switch : Row
switch = guarded 3 1 no_state
    (acts (1 ∷ 1 ∷ 0 ∷ []) (1 ∷ []) (λ args state head. is_true head) (λ args state heads. gives [] (item_of heads 1))
    ∷ acts (1 ∷ 0 ∷ 1 ∷ []) (1 ∷ []) (λ args state head. not (is_true head)) (λ args state heads. gives [] (item_of heads 1))
    ∷ [])

-- n; no state
-- batch: writes the list of n tokens
abbrev pub batch : Row
batch = untimed 1 1 no_state
    (record { needs = λ args. batch_size (item_of args 0) ∷ []; gives = 1 ∷ []; timed = false; guard = always; effect = λ args state heads. gives [] (fitted (token.List heads)) }
    ∷ [])

-- rest
-- emit: when rest is not empty, writes and drops its first
-- take: when rest is empty; rest = x where x is a List, else [x], and [null] where that does not fit
abbrev pub unbatch : Row
unbatch = untimed 1 1 (λ args. token.List [] ∷ [])
    (acts (0 ∷ []) (1 ∷ []) (λ args state head. not (is_empty (item_of state 0)))
    (λ args state heads. gives (token.List (without_first (elements (list_of (item_of state 0)))) ∷ []) (item_of (elements (list_of (item_of state 0))) 0))
    ∷ acts (1 ∷ []) (0 ∷ []) (λ args state head. is_empty (item_of state 0))
    (λ args state heads. gives_none (token.List (taken_apart (item_of heads 0) (list_of (item_of heads 0))) ∷ []))
    ∷ [])

-- n; left
-- pass: when left > 0, writes x; left - 1. drop: when left = 0
abbrev pub take : Row
take = untimed 1 1 (λ args. item_of args 0 ∷ [])
    (acts (1 ∷ []) (1 ∷ []) (λ args state head. is_positive (item_of state 0))
    (λ args state heads. gives (fallen (item_of state 0) ∷ []) (item_of heads 0))
    ∷ acts (1 ∷ []) (0 ∷ []) (λ args state head. is_number 0 (item_of state 0))
    (λ args state heads. gives_none (item_of state 0 ∷ []))
    ∷ [])

-- n; left
-- drop: when left > 0; left - 1. pass: when left = 0, writes x
abbrev pub skip : Row
skip = untimed 1 1 (λ args. item_of args 0 ∷ [])
    (acts (1 ∷ []) (0 ∷ []) (λ args state head. is_positive (item_of state 0))
    (λ args state heads. gives_none (fallen (item_of state 0) ∷ []))
    ∷ acts (1 ∷ []) (1 ∷ []) (λ args state head. is_number 0 (item_of state 0))
    (λ args state heads. gives (item_of state 0 ∷ []) (item_of heads 0))
    ∷ [])

-- n; c
-- pass: when c = n - 1, writes x; c = 0. drop: when c < n - 1; c + 1
abbrev pub every : Row
every = untimed 1 1 (λ args. token.Int (pos 0) ∷ [])
    (acts (1 ∷ []) (1 ∷ []) (λ args state head. is_last (item_of state 0) (item_of args 0))
    (λ args state heads. gives (token.Int (pos 0) ∷ []) (item_of heads 0))
    ∷ acts (1 ∷ []) (0 ∷ []) (λ args state head. is_before_last (item_of state 0) (item_of args 0))
    (λ args state heads. gives_none (next_number (item_of state 0) ∷ []))
    ∷ [])

-- up
-- set: up = whether the token of open is true. pass: when up, passes a token. drop: when not up
abbrev pub valve : Row
valve = untimed 2 1 (λ args. token.Bool false ∷ [])
    (acts (1 ∷ 0 ∷ []) (0 ∷ []) always (λ args state heads. gives_none (token.Bool (is_true (item_of heads 0)) ∷ []))
    ∷ acts (0 ∷ 1 ∷ []) (1 ∷ []) (λ args state head. is_true (item_of state 0)) (λ args state heads. gives (item_of state 0 ∷ []) (item_of heads 0))
    ∷ acts (0 ∷ 1 ∷ []) (0 ∷ []) (λ args state head. not (is_true (item_of state 0))) (λ args state heads. gives_none (item_of state 0 ∷ []))
    ∷ [])

-- no state
-- zip: writes [a, b]
abbrev pub zip : Row
zip = untimed 2 1 no_state
    (acts (1 ∷ 1 ∷ []) (1 ∷ []) always (λ args state heads. gives [] (fitted (token.List (item_of heads 0 ∷ item_of heads 1 ∷ []))))
    ∷ [])

-- no state
-- split: a List of two gives its elements, else null and null
abbrev pub unzip : Row
unzip = untimed 1 2 no_state
    (acts (1 ∷ []) (1 ∷ 1 ∷ []) always (λ args state heads. leaves [] (Some (first_of_two (list_of (item_of heads 0))) ∷ Some (second_of_two (list_of (item_of heads 0))) ∷ []))
    ∷ [])

-- seen, last; the guard looks at token
-- pass: when not seen or x differs from last, writes x; seen = true, last = x. drop: when seen and x equals last
abbrev pub change : Row
change = guarded 1 1 (λ args. token.Bool false ∷ token.Null ∷ [])
    (acts (1 ∷ []) (1 ∷ []) (λ args state head. not (is_repeated state head))
    (λ args state heads. gives (token.Bool true ∷ item_of heads 0 ∷ []) (item_of heads 0))
    ∷ acts (1 ∷ []) (0 ∷ []) (λ args state head. is_repeated state head)
    (λ args state heads. gives_none (item_of state 0 ∷ item_of state 1 ∷ []))
    ∷ [])

abbrev pub row_of : FlowKind → Row
row_of kind.Constant = constant
row_of kind.Counter = counter
row_of kind.CountTimer = count_timer
row_of kind.Identity = identity
row_of kind.Sequence = sequence
row_of kind.Trigger = trigger
row_of kind.Delay = delay
row_of kind.Sum = sum
row_of kind.Tally = tally
row_of kind.Print = sink
row_of kind.Terminator = sink
row_of kind.Init = init
row_of kind.Join = join
row_of kind.Alternate2 = alternate2
row_of kind.Alternate3 = alternate3
row_of kind.Dealternate2 = dealternate2
row_of kind.Select = select
row_of kind.Switch = switch
row_of kind.Batch = batch
row_of kind.Unbatch = unbatch
row_of kind.Take = take
row_of kind.Skip = skip
row_of kind.Every = every
row_of kind.Valve = valve
row_of kind.Zip = zip
row_of kind.Unzip = unzip
row_of kind.Change = change

-- of every kind but these two at most one action is ready
abbrev pub is_exclusive : FlowKind → Bool
is_exclusive kind.Join = false
is_exclusive kind.Valve = false
is_exclusive _ = true
