use Rattle.std.proofs.Common.{Ok, Err, [], ◌∷◌, ◌++◌, length, refl, ◌∙◌, ap}
use Rattle.std.proofs.lemmas.Result.{err_from_is_err_and}
use Rattle.cv_expand.specs.declared.path.Step.{Step}
use Rattle.cv_graph.specs.declared.port.Side.TheVariants as side
use Rattle.cv_graph.specs.Ports.{places}
use Rattle.cv_graph.proofs.Refusing.{told_same, source_own, source_own_not, source_port, source_port_not}
use Rattle.cv_graph.proofs.joining.source_port.Goals as goal

pub returns-in_err-port-in-Own-clause-judged : goal.returns-in_err-port-in-Own-clause-judged
returns-in_err-port-in-Own-clause-judged c =
    let p = err_from_is_err_and c.from_residual.result c.from_residual.ensures.1 in
    let told = told_same (places c.args.parts.now) side.In c.args.feed.now.at (Err c.in_err-port-in-Own.field-0.0) c.as_slice-body.result.now c.args.feed.now.body c.as_str.result.now c.in-Own.name c.len-actors.result (length c.args.parts.now.actors) c.as_slice-body.ensures c.as_str.ensures.text c.len-actors.ensures (c.in_err-port-in-Own.ensures (places c.args.parts.now) c.requires.tabled c.requires.apart) in
    rw (p.1, p.2) (source_own_not c.args.parts.now c.args.feed.now c.in-Own.name _ c.in-Own.is told)

pub returns-in_err-port-in-Port-clause-judged : goal.returns-in_err-port-in-Port-clause-judged
returns-in_err-port-in-Port-clause-judged c =
    let p = err_from_is_err_and c.from_residual-in_err-port-in-Port.result c.from_residual-in_err-port-in-Port.ensures.1 in
    let there = c.as_slice.ensures ∙ c.in_ok-path-in-Port.ensures ∙ ap (λ (s : Step). c.args.feed.now.body ++ s ∷ []) c.in_ok-copy-in-Port.ensures in
    let told = told_same (places c.args.parts.now) side.Out c.args.feed.now.at (Err c.in_err-port-in-Port.field-0.0) c.as_slice.result.now c.as_slice.result.now c.as_str-in-Port.result.now c.in-Port.name 0 0 refl c.as_str-in-Port.ensures.text refl (c.in_err-port-in-Port.ensures (places c.args.parts.now) c.requires.tabled c.requires.apart) in
    rw (p.1, p.2) (source_port_not c.args.parts.now c.args.feed.now c.in-Port.step c.as_slice.result.now c.in-Port.name _ c.in-Port.is there told)

pub returns-in_ok-port-in-Own-clause-judged : goal.returns-in_ok-port-in-Own-clause-judged
returns-in_ok-port-in-Own-clause-judged c =
    let told = told_same (places c.args.parts.now) side.In c.args.feed.now.at (Ok c.in_ok-port-in-Own.port) c.as_slice-body.result.now c.args.feed.now.body c.as_str.result.now c.in-Own.name c.len-actors.result (length c.args.parts.now.actors) c.as_slice-body.ensures c.as_str.ensures.text c.len-actors.ensures (c.in_ok-port-in-Own.ensures (places c.args.parts.now) c.requires.tabled c.requires.apart) in
    source_own c.args.parts.now c.args.feed.now c.in-Own.name c.in_ok-port-in-Own.port c.in-Own.is told

pub returns-in_ok-port-in-Port-clause-judged : goal.returns-in_ok-port-in-Port-clause-judged
returns-in_ok-port-in-Port-clause-judged c =
    let there = c.as_slice.ensures ∙ c.in_ok-path-in-Port.ensures ∙ ap (λ (s : Step). c.args.feed.now.body ++ s ∷ []) c.in_ok-copy-in-Port.ensures in
    let told = told_same (places c.args.parts.now) side.Out c.args.feed.now.at (Ok c.in_ok-port-in-Port.port) c.as_slice.result.now c.as_slice.result.now c.as_str-in-Port.result.now c.in-Port.name 0 0 refl c.as_str-in-Port.ensures.text refl (c.in_ok-port-in-Port.ensures (places c.args.parts.now) c.requires.tabled c.requires.apart) in
    source_port c.args.parts.now c.args.feed.now c.in-Port.step c.as_slice.result.now c.in-Port.name c.in_ok-port-in-Port.port c.in-Port.is there told
