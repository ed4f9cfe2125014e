use Rattle.cv_state.specs.Steps.{frames_of}
use Rattle.cv_station.proofs.Pushes.{pushes_none}
use Rattle.cv_station.proofs.pushing.push_sent.Goals as goal

pub returns-in-Nothing : goal.returns-in-Nothing
returns-in-Nothing c = pushes_none (frames_of c.args.sent) c.args.peers.now
