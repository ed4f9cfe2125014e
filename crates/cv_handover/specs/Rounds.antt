-- What consumers get of determined connections, against the rounds of the plain network.
use Rattle.std.specs.Prelude.{◌≡◌, ℕ, ◌≤◌, List, ◌++◌, length, slice_get, Some}
use Rattle.cv_token.specs.declared.identifiers.AppId.{AppId}
use Rattle.cv_kahn.specs.Determined.{Determined}
use Rattle.cv_kahn.specs.Streams.{Prefix, wrote_at}
use Rattle.cv_kinds.specs.declared.network.Connection.{Connection}
use Rattle.cv_kinds.specs.Wired.{IsWired}
use Rattle.cv_solo.specs.PlainNetwork.{plain}
use Rattle.cv_protocol.specs.declared.event.Step.{Step}
use Rattle.cv_protocol.specs.NodeState.{NodeState}
use Rattle.cv_handover.specs.World.{World}
use Rattle.cv_handover.specs.Meaning.{Nets, Meaning}
use Rattle.cv_handover.specs.Runs.{opened, ran}
use Rattle.cv_handover.specs.Runtimes.{firings}

-- what the consumer of a connection got begins what so many rounds write to it
pub record GetsRounds (n : Nets) (openings : ℕ → NodeState) (start : Meaning) (begins : List Step) (app : AppId) (rounds c : ℕ) : Type 0 where
  pub world : World
  pub meaning : Meaning
  pub reached : ran n (opened openings) start begins ≡ Some (world, meaning)
  pub got : Prefix (meaning.got (record { app = app; place = c })) (wrote_at (plain (n.net app) rounds) c)

-- for each determined connection of a wired network, and at least as many rounds as the application has recorded firings
abbrev pub DeterminedGetRounds : Nets → (ℕ → NodeState) → Meaning → List Step → Type 0
DeterminedGetRounds n openings start m =
    (begins rest : List Step) (app : AppId) (rounds c : ℕ) (j : Connection) → m ≡ begins ++ rest → IsWired (n.net app) → slice_get (n.net app).connections c ≡ Some j → Determined (n.net app) j.from → length (firings app begins) ≤ rounds → GetsRounds n openings start begins app rounds c
