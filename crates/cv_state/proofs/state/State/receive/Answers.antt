use Rattle.cv_state.proofs.Ways.{received_had}
use Rattle.cv_state.proofs.state.State.receive.Goals as goal

pub returns-in_default : goal.returns-in_default
returns-in_default c = received_had c.args.self.now c.args.conn c.args.way c.args.passing c.requires.told c.requires.passes c.in_default.is
