use Rattle.std.proofs.lemmas.Option.{slice_get-get_or}
use Rattle.cv_graph.proofs.Lists.{among_at}
use Rattle.cv_graph.proofs.linking.ways_of.Goals as goal

pub way_of-requires-clause-small : goal.way_of-requires-clause-small
way_of-requires-clause-small c = λ port is less. c.requires.small _ port (among_at c.args.wires.now c.loop-wire.wire-index _ (slice_get-get_or c.args.wires.now c.loop-wire.wire-index _ c.loop-wire-test.true)) is less
