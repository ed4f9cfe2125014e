use Rattle.std.proofs.Common.{◌≡◌, Some, arith}
use Rattle.std.specs.Prelude.{slice_get}
use Rattle.std.proofs.lemmas.List.{length-set}
use Rattle.cv_queue.specs.declared.reader.Reader.{Reader}
use Rattle.cv_queue.specs.Ports.{OutView}
use Rattle.cv_queue.proofs.Kept.{keeps_rewind}
use Rattle.cv_queue.proofs.out_port.OutPort.rewind.Goals as goal

pub invariant_of-self : goal.invariant_of-self
invariant_of-self c =
    let o : OutView = record { held = c.self.inside.held.items; write = c.self.inside.write; cap = c.self.inside.cap; readers = c.self.inside.readers.items } in
    let g : slice_get o.readers c.from.result ≡ Some c.reader_at-before.result = cc in
    (keeps_rewind o c.from.result c.reader_at-before.result g c.self.invariant.0, c.self.invariant.1, omega (arith, length-set {A = Reader}, c.self.invariant.2))
