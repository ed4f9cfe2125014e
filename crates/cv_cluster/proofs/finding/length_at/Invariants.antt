use Rattle.std.proofs.Common.{◌≡◌, drop, map}
use Rattle.cv_cluster.specs.Cluster.{length_of}
use Rattle.cv_cluster.specs.Holding.{node_of}
use Rattle.cv_cluster.proofs.finding.length_at.Given as goal

-- what is left decides
abbrev pub invariant-loop-station : goal.invariant-loop-station
invariant-loop-station l =
    length_of (map node_of (drop l.station-index l.stations)) l.node ≡ length_of (map node_of l.stations) l.node
