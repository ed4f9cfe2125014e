use Rattle.cv_graph.proofs.Leaping.{all_ended, on_itself}
use Rattle.cv_graph.proofs.ways.follow.Goals as goal

pub loop-init : goal.loop-init
loop-init c = record { within = c.requires; known = on_itself c.args.ways.now }

pub returns : goal.returns
returns c = λ i s. all_ended c.args.ways.now c.round.new.ways i s (record { known = c.round.ensures.on c.args.ways.now c.loop.invariant.known; stuck = c.round.ensures.stuck c.loop-test.false c.args.ways.now c.loop.invariant.known })
