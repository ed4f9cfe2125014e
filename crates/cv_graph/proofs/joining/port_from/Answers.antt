use Rattle.std.proofs.Common.{refl, sym, ◌∙◌}
use Rattle.cv_graph.proofs.Lookups.{port_there, port_none, port_low}
use Rattle.cv_graph.proofs.joining.port_from.Goals as goal

pub returns-in_default : goal.returns-in_default
returns-in_default c = λ ps tabled apart.
    (refl, λ p is less. port_none ps c.args.table.now c.args.path.now c.args.side c.args.name.now p tabled apart c.in_ok-port.ensures.named (sym c.in_ok-port.ensures.found ∙ c.in_default.is) is)

pub returns-then-port-first : goal.returns-then-port-first
returns-then-port-first c = λ ps tabled apart.
    (refl, λ p is less. port_low ps c.args.table.now c.args.path.now c.args.side c.args.name.now c.in-Some.port p c.args.first tabled apart c.in_ok-port.ensures.named (sym c.in_ok-port.ensures.found ∙ c.in-Some.is) is c.if-port-first.true less)

pub returns : goal.returns
returns c = λ ps tabled apart.
    (port_there ps c.args.table.now c.args.path.now c.args.side c.args.name.now c.in-Some.port tabled c.in_ok-port.ensures.named (sym c.in_ok-port.ensures.found ∙ c.in-Some.is), c.if-port-first.false)
