use Rattle.std.proofs.Common.{◌≡◌, ◌≤◌, List, length, map, take}
use Rattle.std.specs.List.{All}
use Rattle.cv_kinds.specs.declared.network.Connection.{Connection}
use Rattle.cv_kinds.specs.Wired.{HasPorts}
use Rattle.cv_network.specs.Written.{connection_token}
use Rattle.cv_network.proofs.connections.connections_of.Given as goal

-- of connections that have these trees the first ones
abbrev pub invariant-loop-item : goal.invariant-loop-item
invariant-loop-item l = (connections : List Connection) → length l.actors ≤ 256 → All (HasPorts l.actors) connections → l.items ≡ map (connection_token l.actors) connections → l.connections.items ≡ take l.item-index connections
