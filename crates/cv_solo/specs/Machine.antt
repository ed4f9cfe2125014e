-- A machine: a network, and where its one runtime stands.
use Rattle.std.specs.Prelude.{◌≡◌, ℕ, length}
use Rattle.cv_kinds.specs.Net.{Net}
use Rattle.cv_solo.specs.OneRuntime.{Runtime}

pub record Machine : Type 0 where
  pub net : Net
  pub runtime : Runtime

-- each actor has its slots, each connection its stream
pub record FitsNet (net : Net) (slots streams : ℕ) : Type 0 where
  pub by_actor : slots ≡ length net.actors
  pub by_connection : streams ≡ length net.connections
