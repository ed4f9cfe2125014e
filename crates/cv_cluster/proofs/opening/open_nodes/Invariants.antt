use Rattle.std.proofs.Common.{◌≡◌, map, take}
use Rattle.cv_cluster.specs.Holding.{spec_of}
use Rattle.cv_cluster.specs.Opening.{opened_as}
use Rattle.cv_cluster.proofs.opening.open_nodes.Given as goal

-- those passed have a node
abbrev pub invariant-loop-station : goal.invariant-loop-station
invariant-loop-station l = l.nodes.items ≡ map (opened_as l.net l.at) (map spec_of (take l.station-index l.stations))
