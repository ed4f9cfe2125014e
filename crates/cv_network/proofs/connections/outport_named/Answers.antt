use Rattle.cv_network.proofs.Ports.{outport_text}
use Rattle.cv_network.proofs.connections.outport_named.Goals as goal

pub returns-in_default : goal.returns-in_default
returns-in_default c = λ port h e. let t = outport_text c.args.kind port c.args.name.now h e in absurd (c.in_default.not-Text t.0 t.1)
