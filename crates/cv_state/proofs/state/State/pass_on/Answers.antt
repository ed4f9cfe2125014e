use Rattle.cv_state.proofs.Ways.{has_reader, passed_on}
use Rattle.cv_state.proofs.state.State.pass_on.Goals as goal

pub acknowledge-requires : goal.acknowledge-requires
acknowledge-requires c = has_reader c.args.self.now c.receive.new.self c.args.conn c.args.way c.requires.told c.receive.ensures

pub returns : goal.returns
returns c =
    passed_on c.args.self.now c.receive.new.self c.acknowledge.new.self c.args.conn c.args.way c.args.passing c.requires.told c.requires.passes c.receive.ensures c.acknowledge.ensures
