use Rattle.std.proofs.Common.{◌≤◌, ◌<◌, IfSome, ℕ, sym, subst}
use Rattle.cv_kinds.proofs.Lines.{as_many, outports_are, few_ports}
use Rattle.cv_kinds.proofs.names.outport.Goals as goal

pub port_named-requires : goal.port_named-requires
port_named-requires c = subst (λ (n : ℕ). n ≤ 3) (sym (as_many (λ text. text.now) _ _ _ c.line.ensures.outports (outports_are c.args.kind))) (few_ports c.args.kind).1

pub returns-clause-within : goal.returns-clause-within
returns-clause-within c = subst (λ (n : ℕ). IfSome c.port_named.result (λ port. port < n)) (as_many (λ text. text.now) _ _ _ c.line.ensures.outports (outports_are c.args.kind)) c.port_named.ensures.within
