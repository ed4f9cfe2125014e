use Rattle.std.proofs.Common.{◌≡◌, ◌≤◌, min, length, drop}
use Rattle.cv_queue.specs.Ports.{first_needed_from}
use Rattle.cv_queue.proofs.out_port.first_needed.Given as goal

abbrev pub invariant-loop-k : goal.invariant-loop-k
invariant-loop-k l =
    (l.least ≤ l.written) × (min l.least (first_needed_from (length l.readers) l.written l.k (drop l.k l.readers)) ≡ first_needed_from (length l.readers) l.written 0 l.readers)
