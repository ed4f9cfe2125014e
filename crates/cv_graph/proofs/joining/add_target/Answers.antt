use Rattle.std.proofs.Common.{sym, ◌∙◌}
use Rattle.cv_graph.proofs.Refusing.{indexes_none, indexes_put, indexes_twice, some_of, none_of}
use Rattle.cv_graph.proofs.joining.add_target.Goals as goal

pub returns-in_default : goal.returns-in_default
returns-in_default c = λ wires known count. indexes_none wires c.args.wire c.args.at c.args.feeders known c.in_default.is

pub returns-then-is_some : goal.returns-then-is_some
returns-then-is_some c = λ wires known count.
    let there = some_of c.feeder.result (sym c.is_some.ensures ∙ c.if-is_some.true) in
    indexes_twice wires c.args.wire c.args.at there.0 c.in-Some.port c.args.feeders known c.in-Some.is (sym c.feeder.ensures ∙ there.1)

pub returns : goal.returns
returns c = λ wires known count.
    let free = none_of c.feeder.result (sym c.is_some.ensures ∙ c.if-is_some.false) in
    indexes_put wires c.args.wire c.args.at c.args.number c.in-Some.port c.args.feeders c.in_ok-with_feeder.field-0 known count c.in-Some.is (sym c.feeder.ensures ∙ free) c.in_ok-with_feeder.ensures.same c.in_ok-with_feeder.ensures.others
