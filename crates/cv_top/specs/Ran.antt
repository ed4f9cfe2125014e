-- What a command leaves: its record, and its text.
use Rattle.std.specs.Prelude.{◌≡◌, ◌⊎◌, ℕ, ◌^◌, ◌<◌, List, [], ◌∷◌, ◌++◌, length, map, Some, None}
use Rattle.cv_deploy.specs.Faults.{Means}
use Rattle.cv_kinds.specs.Net.{Net}
use Rattle.cv_kinds.specs.Wired.{IsWired}
use Rattle.cv_kinds.specs.declared.network.ActorSpec.{ActorSpec}
use Rattle.cv_network.specs.Written.{network_token}
use Rattle.cv_token.specs.Spelling.{spelling}
use Rattle.cv_protocol.specs.declared.event.Entry.{Entry}
use Rattle.cv_protocol.specs.declared.event.Record.{Record}
use Rattle.cv_protocol.specs.declared.event.Step.{Step}
use Rattle.cv_protocol.specs.NodeState.{NodeState, opening}
use Rattle.cv_protocol.specs.Owners.{Owners, Nowhere}
use Rattle.cv_alone.specs.declared.alone.RunEnd.{RunEnd}
use Rattle.cv_alone.specs.declared.alone.RunEnd.TheVariants as stop
use Rattle.cv_alone.specs.Recorded.{IsOneNodeRun, first_entry, first_spec, only_first}
use Rattle.cv_alone.specs.Resting.{run_app}
use Rattle.cv_handover.specs.Alone.{Alone}
use Rattle.cv_handover.specs.Meaning.{Nets}
use Rattle.cv_handover.specs.Runs.{OneOwner, nets_of, nothing_yet}
use Rattle.cv_record.specs.Journals.{journals_in, journals_text}
use Rattle.cv_solo.specs.OneRuntime as solo
use Rattle.cv_solo.specs.OneRuntime.{Runtime}
use Rattle.cv_solo.specs.PlainNetwork.{IsIdle, IsPlainRun}
use Rattle.cv_top.specs.declared.end.End.{End}
use Rattle.cv_top.specs.declared.end.End.TheVariants as end
use Rattle.cv_top.specs.Causes.{with_feed}
use Rattle.cv_top.specs.Printed.{firings_of, IsTextOf}
use Rattle.cv_link.specs.declared.items.Item.{Item}
use Rattle.cv_link.specs.declared.items.Item.TheVariants as item
use Rattle.cv_spread.specs.Spread.{IsSpreadRun}
use Rattle.cv_words.specs.Asked.{stray_of}
use Rattle.cv_words.specs.Runs.{Run}
use Rattle.cv_words.specs.declared.items.LinkItem.{LinkItem}
use Rattle.cv_words.specs.declared.items.What.{What}
use Rattle.cv_words.specs.declared.items.What.TheVariants.{Lose, Twice, Cut}
use Rattle.cv_words.specs.declared.words.Task.{Task}
use Rattle.cv_words.specs.declared.words.Task.TheVariants as task

-- no entry, and no node
abbrev pub IsEmptyRecord : Record → Type 0
IsEmptyRecord m = (m.entries ≡ []) × (m.specs ≡ [])

-- nodes before their first entries; node 1 is as in every run
abbrev pub openings : ℕ → NodeState
openings i = opening (record first_spec { no = i })

-- nobody lives anywhere yet
abbrev pub nowhere : Owners
nowhere a = Nowhere

-- the networks of a run: its own, as the one application of node 1
abbrev pub nets : Net → List Entry → ActorSpec → Nets
nets net more nobody = nets_of nobody (only_first (first_entry net ∷ more))

-- after these steps the one runtime that fires the recorded actions is defined; what each consumer got is the beginning of what
-- its producer wrote, and it took no more than it got
abbrev pub StreamsInOrder : Net → List Entry → List Step → Type 0
StreamsInOrder net more begins =
    (nobody : ActorSpec) → Alone (nets net more nobody) openings (nothing_yet (nets net more nobody)) (solo.opening net) begins run_app

-- a run of a network on one node, with so many firings at most, that stopped so, with this record
pub record IsRightAlone (net : Net) (most : ℕ) (s : RunEnd) (m : Record) : Type 0 where
  -- the record is a local run of node 1 alone, that begins with the network's one deployment, and its end is right
  pub run : IsOneNodeRun net most s m
  -- at every beginning of it each actor lives at its owner and nowhere else
  pub owners : OneOwner openings nowhere m.entries
  -- at every beginning of it the streams are in order
  pub streams : (begins rest : List Step) → m.entries ≡ begins ++ rest → StreamsInOrder net run.more begins

-- what becomes of the frame that an item of the words names
abbrev pub item_of : What → ℕ → ℕ → ℕ → Item
item_of Lose from to k = item.Lose from to k
item_of Twice from to k = item.Twice from to k
item_of Cut from to k = item.Cut from to k

abbrev pub link_item : LinkItem → Item
link_item i = item_of i.what i.from i.to i.k

-- an item of nodes with numbers of 16 bits
abbrev pub IsNear : LinkItem → Type 0
IsNear i = (i.from < 2 ^ 16) × (i.to < 2 ^ 16)

-- a run of a network as the words ask, that stopped so, with this record: on one node, or over several with the faults of links
abbrev pub IsRightRecord : Run → Net → RunEnd → Record → Type 0
IsRightRecord run net s m =
    ((run.nodes ≡ 1) × IsRightAlone net run.firings s m)
    ⊎ ((1 < run.nodes) × IsSpreadRun net run.nodes (map link_item run.items) run.firings s m)

-- the same with its text: that of the one runtime that fires the recorded actions in recorded order
pub record IsRightRun (run : Run) (net : Net) (s : RunEnd) (m : Record) (text : List ℕ) : Type 0 where
  pub right : IsRightRecord run net s m
  pub runtime : Runtime
  pub defined : solo.solo net (firings_of m.entries) ≡ Some runtime
  pub printed : IsTextOf net (firings_of m.entries) runtime s text

-- a run with another text: that of the journals in the record
pub record IsRightTrace (run : Run) (net : Net) (s : RunEnd) (m : Record) (text : List ℕ) : Type 0 where
  pub right : IsRightRecord run net s m
  pub written : text ≡ journals_text (journals_in m)

-- a run in rounds is spent exactly after the firings that were allowed, and quiescent only after fewer and where no action is
-- ready
abbrev pub RoundsEnd : Net → ℕ → RunEnd → List (ℕ × ℕ) → Runtime → Type 0
RoundsEnd net most stop.Spent firings after = length firings ≡ most
RoundsEnd net most stop.Quiescent firings after = (length firings < most) × IsIdle net after

-- a run of a network by the one runtime in rounds, with so many firings at most, that stopped so, with this text: that of the
-- first so many firings of the rounds. It leaves no record.
pub record IsRightRounds (net : Net) (most : ℕ) (s : RunEnd) (m : Record) (text : List ℕ) : Type 0 where
  pub firings : List (ℕ × ℕ)
  pub runtime : Runtime
  pub run : IsPlainRun net most firings runtime
  pub ends : RoundsEnd net most s firings runtime
  pub printed : IsTextOf net firings runtime s text
  pub empty : IsEmptyRecord m

-- the end of a run that stopped so
abbrev pub end_at : RunEnd → End
end_at stop.Spent = end.Spent
end_at stop.Quiescent = end.Quiescent

-- what is done with a network, as the task asks: how it ends, its record, and its text
abbrev pub IsRight : Task → Net → End → Record → List ℕ → Type 0
IsRight (task.Run run) net e m text = (s : RunEnd) × (e ≡ end_at s) × IsRightRun run net s m text
IsRight (task.Trace run) net e m text = (s : RunEnd) × (e ≡ end_at s) × IsRightTrace run net s m text
IsRight (task.Solo most) net e m text = (s : RunEnd) × (e ≡ end_at s) × IsRightRounds net most s m text
IsRight task.Compile net e m text = (e ≡ end.Done) × IsEmptyRecord m × (text ≡ with_feed (spelling (network_token net)))

-- the same with the network that the bytes of a script mean, for a task whose items name nodes that run
pub record IsDoneFor (t : Task) (bytes : List ℕ) (e : End) (m : Record) (text : List ℕ) : Type 0 where
  pub fits : stray_of t ≡ None
  pub net : Net
  pub means : Means bytes net
  pub wired : IsWired net
  pub right : IsRight t net e m text
