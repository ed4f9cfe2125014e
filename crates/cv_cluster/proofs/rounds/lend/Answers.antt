use denote.Param.Send.{sendable}
use Rattle.cv_station.proofs.Crossing.{station_send}
use Rattle.cv_cluster.proofs.rounds.lend.Goals as goal

pub for_each_mut-requires-send-T : goal.for_each_mut-requires-send-T
for_each_mut-requires-send-T g c = search (station_send, sendable)
