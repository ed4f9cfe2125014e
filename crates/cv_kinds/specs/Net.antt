-- What a network is: actors, and the connections between their ports.
use Rattle.std.specs.Prelude.{ℕ, ◌≤◌, List}
use Rattle.cv_kinds.specs.declared.network.ActorSpec.{ActorSpec}
use Rattle.cv_kinds.specs.declared.network.Connection.{Connection}

-- the actors in the order of their declarations, and the connections by consumer, then inport
pub record Net : Type 0 where
  pub actors : List ActorSpec
  pub connections : List Connection

abbrev pub most_actors : ℕ
most_actors = 256

abbrev pub most_connections : ℕ
most_connections = 4096

-- a network is within both bounds
pub record IsSmall (actors connections : ℕ) : Type 0 where
  pub few_actors : actors ≤ most_actors
  pub few_connections : connections ≤ most_connections
