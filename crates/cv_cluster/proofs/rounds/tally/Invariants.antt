use Rattle.std.proofs.Common.{take}
use Rattle.cv_cluster.proofs.Quotas.{Tallied}
use Rattle.cv_cluster.proofs.rounds.tally.Given as goal

-- those passed are told of
abbrev pub invariant-loop-station : goal.invariant-loop-station
invariant-loop-station l = Tallied (take l.station-index l.stations) l.outcome.fired l.outcome.failed
