use Rattle.std.proofs.Common.{◌≡◌}
use Rattle.cv_mesh.specs.Joining.{ConnectedTo}
use Rattle.cv_mesh.proofs.joining.join.Given as goal

-- the new station is connected to those passed
abbrev pub invariant-loop-place : goal.invariant-loop-place
invariant-loop-place l = record {
  connected : ConnectedTo l.fn.items l.fn.stations.items l.place l.stations.items l.station;
  node : l.station.node ≡ l.fn.node;
}
