use Rattle.std.proofs.Common.{refl, sym, ◌∙◌, ap, subst}
use Rattle.cv_deploy.specs.declared.fault.Code.{Code}
use Rattle.cv_deploy.specs.Faults.{expand_said, graph_said, FaultOf}
use Rattle.cv_deploy.specs.Meaning.{first_word}
use Rattle.cv_deploy.proofs.Saying.{by_said, walk_said, parts_said, rules_said, same_fault, fault_refuses, fault_gives, network_refuses, one_meaning}
use Rattle.cv_deploy.proofs.compiling.network_of.Goals as goal

pub returns-in-Err-clause-fault : goal.returns-in-Err-clause-fault
returns-in-Err-clause-fault c =
    let items = c.args.script.now.items in
    by_said c.args.bytes.now items (expand_said c.in-Err.fault) c.of_expand.result (walk_said items c.in-Err.fault c.in-Err.ensures.exact) c.of_expand.ensures

pub returns-in-Err-network-clause-only : goal.returns-in-Err-network-clause-only
returns-in-Err-network-clause-only c = λ net means.
    let items = c.args.script.now.items in
    let caused = by_said c.args.bytes.now items (graph_said c.in-Err-network.fault) c.of_graph.result (parts_said items c.in-Ok.flat c.in-Err-network.fault c.in-Ok.ensures.exact c.in-Err-network.ensures.judged) c.of_graph.ensures in
    fault_gives c.args.bytes.now items c.of_graph.result net caused means

pub returns-in-Err-network-clause-fault : goal.returns-in-Err-network-clause-fault
returns-in-Err-network-clause-fault c =
    let items = c.args.script.now.items in
    by_said c.args.bytes.now items (graph_said c.in-Err-network.fault) c.of_graph.result (parts_said items c.in-Ok.flat c.in-Err-network.fault c.in-Ok.ensures.exact c.in-Err-network.ensures.judged) c.of_graph.ensures

pub returns-in-Err-network-clause-refused : goal.returns-in-Err-network-clause-refused
returns-in-Err-network-clause-refused c = λ fault is.
    let items = c.args.script.now.items in
    let caused = by_said c.args.bytes.now items (graph_said c.in-Err-network.fault) c.of_graph.result (parts_said items c.in-Ok.flat c.in-Err-network.fault c.in-Ok.ensures.exact c.in-Err-network.ensures.judged) c.of_graph.ensures in
    fault_refuses c.args.bytes.now items c.of_graph.result fault caused is

pub returns-in-Some-clause-fault : goal.returns-in-Some-clause-fault
returns-in-Some-clause-fault c =
    let items = c.args.script.now.items in
    let word = sym (c.in-Some.ensures ∙ ap first_word c.as_slice.ensures) in (
      c.in-Some.at,
      subst (λ (code : Code). FaultOf items (record { code = code; at = c.in-Some.at })) (sym c.fault_at.ensures.code) (rules_said items c.in-Ok.flat c.in-Some.at (c.in-Ok.ensures.exact, c.in-Ok-network.ensures.judged) word _ refl),
      c.fault_at.ensures.place,
    )

pub returns-in-Some-clause-refused : goal.returns-in-Some-clause-refused
returns-in-Some-clause-refused c = λ fault is.
    let items = c.args.script.now.items in
    let word = sym (c.in-Some.ensures ∙ ap first_word c.as_slice.ensures) in
    same_fault c.args.bytes.now items c.fault_at.result fault (
      c.in-Some.at,
      subst (λ (code : Code). FaultOf items (record { code = code; at = c.in-Some.at })) (sym c.fault_at.ensures.code) (rules_said items c.in-Ok.flat c.in-Some.at (c.in-Ok.ensures.exact, c.in-Ok-network.ensures.judged) word _ refl),
      c.fault_at.ensures.place,
    ) is

pub returns-clause-only : goal.returns-clause-only
returns-clause-only c = λ net means.
    let items = c.args.script.now.items in
    let word = sym (c.in-None.ensures ∙ ap first_word c.as_slice.ensures) in
    one_meaning items c.in-Ok-network.net net (c.in-Ok.flat, (c.in-Ok.ensures.exact, c.in-Ok-network.ensures.judged), c.in-Ok-network.ensures.network, word) means

pub returns-clause-refused : goal.returns-clause-refused
returns-clause-refused c = λ fault is.
    let items = c.args.script.now.items in
    let word = sym (c.in-None.ensures ∙ ap first_word c.as_slice.ensures) in
    network_refuses c.args.bytes.now items c.in-Ok-network.net fault (c.in-Ok.flat, (c.in-Ok.ensures.exact, c.in-Ok-network.ensures.judged), c.in-Ok-network.ensures.network, word) is
