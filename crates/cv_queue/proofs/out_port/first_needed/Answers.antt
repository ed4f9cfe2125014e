use Rattle.std.proofs.Common.{length, arith}
use Rattle.std.proofs.lemmas.List.{at_drop_all}
use Rattle.cv_queue.specs.Ports.{first_needed_from}
use Rattle.cv_queue.proofs.Positions.{first_needed_le}
use Rattle.cv_queue.proofs.out_port.first_needed.Goals as goal

pub loop-k-init : goal.loop-k-init
loop-k-init c =
    (omega arith, omega (arith, first_needed_le (length c.args.readers.now) c.args.written 0 c.args.readers.now))

pub returns-clause-value : goal.returns-clause-value
returns-clause-value c =
    let e = at_drop_all (first_needed_from (length c.args.readers.now) c.args.written c.loop-k.k) c.args.readers.now c.loop-k.k c.loop-k-test.false in
    omega (arith, e, c.loop-k.invariant.0, c.loop-k.invariant.1)
