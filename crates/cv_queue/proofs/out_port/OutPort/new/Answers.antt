use Rattle.std.proofs.Common.{◌≡◌, [], ap, map, length, arith}
use Rattle.std.proofs.lemmas.List.{length-map}
use Rattle.cv_queue.specs.Ports.{reader_from}
use Rattle.cv_queue.proofs.Kept.{is_new_out}
use Rattle.cv_queue.proofs.out_port.OutPort.new.Goals as goal

pub invariant_of-result : goal.invariant_of-result
invariant_of-result c =
    let e : c.in_ok-with_capacity.field-0.items ≡ [] = c.in_ok-with_capacity.ensures.items in
    let f : c.in_ok-new_readers.field-0.items ≡ map (reader_from 0) c.args.readers = c.in_ok-new_readers.ensures.value in
    (rw (e, f) (is_new_out c.args.cap c.args.readers c.requires), omega (arith, c.in_ok-with_capacity.ensures.capacity), omega (arith, ap length f, length-map c.args.readers (reader_from 0), c.in_ok-new_readers.ensures.few))
