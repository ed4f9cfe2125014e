-- What a live actor may do at a moment, and what a firing does to it.
use Rattle.std.specs.Prelude.{ℕ, zero, suc, ◌+◌, ◌^◌, Bool, true, false, ◌&&◌, nat_lt, if◌then◌else◌, List, [], ◌∷◌, map, drop, length, Option, Some, None}
use Rattle.cv_token.specs.declared.token.Token.{Token}
use Rattle.cv_queue.specs.Ports.{OutView, space, received, after_write, after_commit}
use Rattle.cv_behave.specs.KindRow.{Row, action_count, needed, given, is_timed, guard_holds, effect_of, heads_of, head_at}
use Rattle.cv_protocol.specs.declared.poll.Need.{Need}
use Rattle.cv_protocol.specs.declared.poll.Need.TheVariants as need
use Rattle.cv_protocol.specs.declared.state.Inlet.{Inlet}
use Rattle.cv_kinds.specs.KindRow.{row_of}
use Rattle.cv_protocol.specs.Actors.{Actor, LiveState}

-- every number of a node stays below this one
abbrev pub limit : ℕ
limit = 2 ^ 62

abbrev pub row_at : LiveState → Row
row_at l = row_of l.actor.spec.kind

-- 1. What an action finds

-- the tokens in an inport; one that nothing feeds has none
abbrev pub held_in : Option Inlet → List Token
held_in None = []
held_in (Some i) = i.port.held

-- how many of them are read
abbrev pub read_in : Option Inlet → ℕ
read_in None = 0
read_in (Some i) = i.port.tentative

-- the tokens of each inport
abbrev pub inputs : List (Option Inlet) → List (List Token)
inputs ins = map held_in ins

-- the first inport, for those from number `port` on, that holds fewer tokens than are needed of it
abbrev pub first_short : (ℕ → ℕ) → ℕ → List (Option Inlet) → Option Need
first_short needs port [] = None
first_short needs port (i ∷ ins) =
    if nat_lt (length (held_in i)) (needs port)
    then Some (need.Token port (needs port))
    else first_short needs (suc port) ins

-- the first inport of which more tokens are needed than are read
abbrev pub first_unread : (ℕ → ℕ) → ℕ → List (Option Inlet) → Option ℕ
first_unread needs port [] = None
first_unread needs port (i ∷ ins) =
    if nat_lt (read_in i) (needs port) then Some port else first_unread needs (suc port) ins

-- the first outport that has no place for what it is given
abbrev pub first_crowded : (ℕ → ℕ) → ℕ → List OutView → Option ℕ
first_crowded gives port [] = None
first_crowded gives port (o ∷ outs) =
    if nat_lt (space o) (gives port) then Some port else first_crowded gives (suc port) outs

-- 2. The first lack of an action: tokens, then reading, guard, space and time, in this order

-- what an action lacks first, or that it fires; reading is no lack, but comes first: so many tokens of that inport
pub data Look : Type 0 where
  Lacks : Need → Look
  Reads : (port count : ℕ) → Look
  Fires : Look

abbrev pub look_at_time : LiveState → ℕ → Bool → Look
look_at_time l now true = if nat_lt now l.due then Lacks (need.Until l.due) else Fires
look_at_time l now false = Fires

abbrev pub look_at_space : LiveState → ℕ → ℕ → Option ℕ → Look
look_at_space l now action (Some port) = Lacks (need.Space port)
look_at_space l now action None = look_at_time l now (is_timed (row_at l) action)

abbrev pub look_at_guard : LiveState → ℕ → ℕ → Bool → Look
look_at_guard l now action false = Lacks need.Guard
look_at_guard l now action true =
    look_at_space l now action (first_crowded (given (row_at l) action) 0 l.actor.outs)

-- the guard looks at the slots and at the first token of the guard port
abbrev pub is_guarded : LiveState → ℕ → Bool
is_guarded l action =
    guard_holds (row_at l) l.actor.spec.args l.actor.slots action (head_at (row_at l).guard_port (inputs l.actor.ins))

abbrev pub look_at_reads : LiveState → ℕ → ℕ → Option ℕ → Look
look_at_reads l now action (Some port) = Reads port (needed (row_at l) l.actor.spec.args action port)
look_at_reads l now action None = look_at_guard l now action (is_guarded l action)

abbrev pub look_at_tokens : LiveState → ℕ → ℕ → Option Need → Look
look_at_tokens l now action (Some lack) = Lacks lack
look_at_tokens l now action None =
    look_at_reads l now action (first_unread (needed (row_at l) l.actor.spec.args action) 0 l.actor.ins)

abbrev pub look : LiveState → ℕ → ℕ → Look
look l now action =
    look_at_tokens l now action (first_short (needed (row_at l) l.actor.spec.args action) 0 l.actor.ins)

-- 3. The answer of a poll: that of the first action that lacks nothing or has to read, or every action's lack

pub data Answer : Type 0 where
  Fired : (action : ℕ) → Answer
  Held : (port count : ℕ) → Answer
  Waiting : List Need → Answer

abbrev pub with_lack : Need → Answer → Answer
with_lack lack (Waiting lacks) = Waiting (lack ∷ lacks)
with_lack lack (Fired action) = Fired action
with_lack lack (Held port count) = Held port count

abbrev pub answer_from : Look → ℕ → Answer → Answer
answer_from Fires action later = Fired action
answer_from (Reads port count) action later = Held port count
answer_from (Lacks lack) action later = with_lack lack later

-- the answer of so many actions from number `action` on
abbrev pub poll_from : LiveState → ℕ → ℕ → ℕ → Answer
poll_from l now action zero = Waiting []
poll_from l now action (suc left) =
    answer_from (look l now action) action (poll_from l now (suc action) left)

abbrev pub poll : LiveState → ℕ → Answer
poll l now = poll_from l now 0 (action_count (row_at l))

-- 4. A firing

-- an inport from which so many tokens are taken; its other tentative reads are given up
abbrev pub taken_from : ℕ → Option Inlet → Option Inlet
taken_from count None = None
taken_from count (Some i) = Some (record i { port = after_commit i.port count })

-- the inports, from number `port` on, from which the needed tokens are taken
abbrev pub without_needed : (ℕ → ℕ) → ℕ → List (Option Inlet) → List (Option Inlet)
without_needed needs port [] = []
without_needed needs port (i ∷ ins) = taken_from (needs port) i ∷ without_needed needs (suc port) ins

-- what is given to the first of the outports that are left
abbrev pub first_given : List (Option Token) → Option Token
first_given [] = None
first_given (g ∷ gs) = g

abbrev pub with_token : OutView → Option Token → OutView
with_token o None = o
with_token o (Some t) = after_write o t

-- the outports with the tokens given
abbrev pub with_given : List (Option Token) → List OutView → List OutView
with_given out [] = []
with_given out (o ∷ outs) = with_token o (first_given out) ∷ with_given (drop 1 out) outs

-- the actor after the action: needed tokens are taken, all other tentative reads are given up, and the effect is written
abbrev pub fired_actor : Actor → ℕ → Actor
fired_actor a action =
    let row = row_of a.spec.kind in
    let effect = effect_of row a.spec.args a.slots action (heads_of row a.spec.args action 0 (inputs a.ins)) in
    record a {
      slots = effect.state;
      ins = without_needed (needed row a.spec.args action) 0 a.ins;
      outs = with_given effect.out a.outs;
    }

abbrev pub fired : LiveState → ℕ → ℕ → LiveState
fired l now action =
    record l { actor = fired_actor l.actor action; due = now + (row_at l).pause l.actor.spec.args }

-- 5. Numbers

-- whether an inport's numbers are below the limit, and an outport's
abbrev pub inlet_fits : Option Inlet → Bool
inlet_fits None = true
inlet_fits (Some i) = nat_lt i.port.taken limit && nat_lt (received i.port) limit

abbrev pub all_inlets_fit : List (Option Inlet) → Bool
all_inlets_fit [] = true
all_inlets_fit (i ∷ ins) = inlet_fits i && all_inlets_fit ins

abbrev pub all_outs_fit : List OutView → Bool
all_outs_fit [] = true
all_outs_fit (o ∷ outs) = nat_lt o.write limit && all_outs_fit outs

-- whether all numbers of a live actor are below the limit
abbrev pub live_fits : LiveState → Bool
live_fits l = nat_lt l.due limit && nat_lt l.attempt limit && all_inlets_fit l.actor.ins && all_outs_fit l.actor.outs
