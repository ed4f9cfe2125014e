use Rattle.std.proofs.Common.{◌≡◌, ◌-◌, List, length, refl, ap, ◌∙◌, subst, arith}
use Rattle.std.proofs.lemmas.List.{length-map}
use Rattle.cv_queue.specs.declared.reader.Reader.{Reader}
use Rattle.cv_queue.specs.declared.reader.Subscription.{Subscription}
use Rattle.cv_queue.specs.Ports.{OutView, AreWritten, out_at, reader_from, first_needed, first_needed_from}
use Rattle.cv_queue.proofs.Kept.{is_out_at}
use Rattle.cv_queue.proofs.out_port.OutPort.of.Goals as goal

pub invariant_of-result : goal.invariant_of-result
invariant_of-result c =
    let o : OutView = out_at c.args.cap c.args.write c.args.held c.args.readers in
    let h : c.in_ok-with_room.field-0.items ≡ c.args.held = c.in_ok-with_room.ensures.items in
    let r : c.in_ok-readers.readers.items ≡ o.readers = c.in_ok-readers.ensures.value in
    let d : c.deref.result.now ≡ o.readers = c.deref.ensures.value ∙ r in
    let l : c.deref-else-not-are_written.result.now ≡ o.readers = c.deref-else-not-are_written.ensures.value ∙ r in
    let w : AreWritten c.args.write o.readers = subst (λ (rs : List Reader). AreWritten c.args.write rs) d (c.if-not-are_written.ensures.0 refl) in
    let f : c.first_needed.result ≡ first_needed o = c.first_needed.ensures.value ∙ ap (λ (rs : List Reader). first_needed_from (length rs) c.args.write 0 rs) l in
    let n : length o.held ≡ c.args.write - first_needed o = omega (arith, f, c.len-else-not-are_written.ensures) in
    let p = is_out_at c.args.cap c.args.write c.args.held c.args.readers (omega arith) (omega arith) (omega arith) w n in
    (rw (h, r) p, c.in_ok-with_room.ensures.room, omega (arith, ap length r, length-map c.args.readers (λ (s : Subscription). reader_from s.acked s), c.in_ok-readers.ensures.few))

pub returns : goal.returns
returns c =
    let o : OutView = out_at c.args.cap c.args.write c.args.held c.args.readers in
    let h : c.in_ok-with_room.field-0.items ≡ c.args.held = c.in_ok-with_room.ensures.items in
    let r : c.in_ok-readers.readers.items ≡ o.readers = c.in_ok-readers.ensures.value in
    let d : c.deref.result.now ≡ o.readers = c.deref.ensures.value ∙ r in
    let l : c.deref-else-not-are_written.result.now ≡ o.readers = c.deref-else-not-are_written.ensures.value ∙ r in
    let w : AreWritten c.args.write o.readers = subst (λ (rs : List Reader). AreWritten c.args.write rs) d (c.if-not-are_written.ensures.0 refl) in
    let f : c.first_needed.result ≡ first_needed o = c.first_needed.ensures.value ∙ ap (λ (rs : List Reader). first_needed_from (length rs) c.args.write 0 rs) l in
    let n : length o.held ≡ c.args.write - first_needed o = omega (arith, f, c.len-else-not-are_written.ensures) in
    let p = is_out_at c.args.cap c.args.write c.args.held c.args.readers (omega arith) (omega arith) (omega arith) w n in
    (p, cc)
