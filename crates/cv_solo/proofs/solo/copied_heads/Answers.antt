use Rattle.std.proofs.Common.{◌<◌, subst, ℕ}
use Rattle.cv_kinds.specs.KindRow.{row_of}
use Rattle.cv_solo.proofs.Inputs.{heads_next}
use Rattle.cv_solo.proofs.solo.copied_heads.Goals as goal

pub loop-port-preserved : goal.loop-port-preserved
loop-port-preserved c =
    let within : c.loop-port.port < (row_of c.args.spec.now.kind).inports = subst (λ (n : ℕ). c.loop-port.port < n) c.inports-port-end.ensures c.loop-port-test.true in
    heads_next (row_of c.args.spec.now.kind) c.args.spec.now.args c.args.action c.args.connections.now c.args.streams.now c.args.actor c.loop-port.port (row_of c.args.spec.now.kind).inports c.loop-port.heads c.copy_first.new.heads _ within
    (rw (c.needs-needed.ensures, c.waiting_tokens.ensures) at c.in_ok-copy_first.ensures) c.loop-port.invariant
