use Rattle.std.proofs.Common.{sym, subst}
use Rattle.std.proofs.lemmas.Result.{err_from_is_err_and}
use Rattle.cv_expand.specs.declared.flat.Parts.{Parts}
use Rattle.cv_expand.specs.Flat.{IsFlat}
use Rattle.cv_graph.specs.Checks.{checks, AllHold}
use Rattle.cv_graph.specs.Faults.{Faulty}
use Rattle.cv_graph.specs.Meaning.{IsNetwork}
use Rattle.cv_kinds.specs.Net.{Net}
use Rattle.cv_graph.proofs.Whole.{fault_of_actors, fault_of_joins, fault_of_queues, no_fault}
use Rattle.cv_graph.proofs.Wires.{is_well_formed}
use Rattle.cv_graph.proofs.networks.network.Goals as goal

pub returns-in_err-actors-clause-judged : goal.returns-in_err-actors-clause-judged
returns-in_err-actors-clause-judged c =
    let p = err_from_is_err_and c.from_residual.result c.from_residual.ensures.1 in
    let e = c.in_err-actors.field-0.0 in
    rw (p.1, p.2) (subst (λ (parts : Parts). Faulty parts (checks parts) e) c.parts-parts.ensures.value (fault_of_actors c.parts-parts.result.now e c.in_err-actors.ensures.judged))

pub returns-in_err-connections-clause-judged : goal.returns-in_err-connections-clause-judged
returns-in_err-connections-clause-judged c =
    let p = err_from_is_err_and c.from_residual-in_err-connections.result c.from_residual-in_err-connections.ensures.1 in
    let e = c.in_err-connections.field-0.0 in
    rw (p.1, p.2) (subst (λ (parts : Parts). Faulty parts (checks parts) e) c.parts-parts.ensures.value (fault_of_joins c.parts-parts.result.now e c.in_ok-actors.ensures.judged c.in_err-connections.ensures.judged))

pub returns-in_err-check_queues-clause-judged : goal.returns-in_err-check_queues-clause-judged
returns-in_err-check_queues-clause-judged c =
    let p = err_from_is_err_and c.from_residual-in_err-check_queues.result c.from_residual-in_err-check_queues.ensures.1 in
    let e = c.in_err-check_queues.field-0.0 in
    rw (p.1, p.2) (subst (λ (parts : Parts). Faulty parts (checks parts) e) c.parts-parts.ensures.value (fault_of_queues c.parts-parts.result.now e c.in_ok-actors.ensures.judged c.in_ok-connections.ensures.judged c.in_err-check_queues.ensures))

pub new-requires : goal.new-requires
new-requires c =
    let flat = subst IsFlat (sym c.parts-parts.ensures.value) c.parts-parts.ensures.flat in
    let net : Net = record { actors = c.in_ok-actors.actors.items; connections = c.in_ok-connections.connections.items } in
    let is : IsNetwork c.parts-parts.result.now net = record { actors = c.in_ok-actors.ensures.actors; connections = c.in_ok-connections.ensures.connections; rising = c.in_ok-connections.ensures.rising } in
    is_well_formed c.parts-parts.result.now net flat is c.in_ok-actors.ensures.sound c.in_ok-actors.ensures.named c.in_ok-connections.ensures.few

pub returns-clause-judged : goal.returns-clause-judged
returns-clause-judged c =
    subst (λ (parts : Parts). AllHold parts (checks parts)) c.parts-parts.ensures.value (no_fault c.parts-parts.result.now c.in_ok-actors.ensures.judged c.in_ok-connections.ensures.judged c.in_ok-check_queues.ensures)
