use Rattle.std.proofs.Common.{◌≡◌, ℕ, ◌-◌, ◌≤◌, List, length, drop, Some, ap, ◌∙◌, arith}
use Rattle.std.specs.Prelude.{slice_get}
use Rattle.cv_queue.specs.declared.reader.Reader.{Reader}
use Rattle.std.proofs.lemmas.List.{length-set}
use Rattle.cv_queue.specs.Ports.{OutView, count, count_of, with_reader, first_needed, first_needed_from, first_held}
use Rattle.cv_queue.proofs.Kept.{keeps_ack, needed_from}
use Rattle.cv_queue.proofs.out_port.OutPort.ack.Goals as goal

pub overflow_sub-needed : goal.overflow_sub-needed
overflow_sub-needed c =
    let o : OutView = record { held = c.self.inside.held.items; write = c.self.inside.write; cap = c.self.inside.cap; readers = c.self.inside.readers.items } in
    let r = c.reader_at-before.result in
    let g : slice_get o.readers c.from-place.result ≡ Some r = cc in
    let n = needed_from o c.from-place.result r c.args.upto c.max.result g (omega arith) c.self.invariant.0 in
    let e : c.first_needed-needed.result ≡ first_needed (with_reader o c.from-place.result r c.args.upto c.max.result) = c.first_needed-needed.ensures.value ∙ ap (λ (rs : List Reader). first_needed_from (length rs) c.self.inside.write 0 rs) c.deref-2.ensures.value in
    omega (arith, e, n.0, c.self.inside.held.ok.0)

pub drop_front-requires : goal.drop_front-requires
drop_front-requires c =
    omega (arith, c.first_needed-needed.ensures.within, c.self.invariant.0.held_from, c.self.inside.held.ok.0)

pub invariant_of-self : goal.invariant_of-self
invariant_of-self c =
    let o : OutView = record { held = c.self.inside.held.items; write = c.self.inside.write; cap = c.self.inside.cap; readers = c.self.inside.readers.items } in
    let r = c.reader_at-before.result in
    let k : ℕ = c.from-place.result in
    let g : slice_get o.readers k ≡ Some r = cc in
    let e : c.first_needed-needed.result ≡ first_needed (with_reader o k r c.args.upto c.max.result) = c.first_needed-needed.ensures.value ∙ ap (λ (rs : List Reader). first_needed_from (length rs) c.self.inside.write 0 rs) c.deref-2.ensures.value in
    let n : c.first_needed-needed.result - (c.self.inside.write - c.len-2.result) ≡ first_needed (with_reader o k r c.args.upto c.max.result) - first_held o = omega (arith, e, c.len-2.ensures, c.self.inside.held.ok.0) in
    let d : c.drop_front.new.slots.items ≡ drop (first_needed (with_reader o k r c.args.upto c.max.result) - first_held o) o.held = c.drop_front.ensures.items ∙ ap (λ (m : ℕ). drop m o.held) n in
    let m : c.count_among.result ≡ count_of o k = c.count_among.ensures ∙ ap (λ (s : ℕ). count s c.self.inside.write k) (omega (arith, c.len.ensures, c.self.inside.readers.ok.0)) in
    let s : c.max.result ≤ count_of o k = omega (arith, m, c.max.ensures, (c.self.invariant.0.in_order k r g).1) in
    (rw d (keeps_ack o k r c.args.upto c.max.result g (omega arith) (omega arith) s c.self.invariant.0), omega arith, omega (arith, length-set {A = Reader}, c.self.invariant.2))
