-- What holds of each network.
use Rattle.std.specs.Prelude.{◌≡◌, ℕ, true, List, map, length}
use Rattle.std.specs.List.{All, IsDistinct}
use Rattle.std.specs.Str.{bytes_eq, is_utf8}
use Rattle.cv_kinds.specs.declared.network.ActorSpec.{ActorSpec}
use Rattle.cv_kinds.specs.Net.{Net, IsSmall}
use Rattle.cv_kinds.specs.Sorts.{are_args}
use Rattle.cv_kinds.specs.Wired.{IsWired, Rising}

-- a path of UTF-8, a kind, and arguments of the kind's row
pub record IsSpec (s : ActorSpec) : Type 0 where
  pub path : is_utf8 s.path ≡ true
  pub args : are_args s.kind s.args ≡ true

abbrev pub path_list : List ActorSpec → List (List ℕ)
path_list actors = map (λ a. a.path) actors

-- at most 256 actors and 4,096 connections; no two actors at one path, each with arguments of its kind's row; connections of
-- ports that are there, by consumer, then inport, so that an inport has one or is void
pub record IsWellFormed (net : Net) : Type 0 where
  pub small : IsSmall (length net.actors) (length net.connections)
  pub specs : All IsSpec net.actors
  pub distinct : IsDistinct bytes_eq (path_list net.actors)
  pub wired : IsWired net
  pub rising : Rising net.connections
