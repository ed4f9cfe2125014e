use Rattle.std.proofs.Common.{◌≡◌, ℕ, Some, sym, subst, arith}
use Rattle.std.specs.Prelude.{slice_get, IsSomeAnd}
use Rattle.std.proofs.lemmas.Option.{slice_get_within}
use Rattle.std.proofs.lemmas.List.{length-set}
use Rattle.cv_queue.specs.declared.reader.Reader.{Reader}
use Rattle.cv_queue.specs.Ports.{OutView, spread, HasUnsent}
use Rattle.cv_queue.proofs.Positions.{count_within}
use Rattle.cv_queue.proofs.Kept.{unsent, keeps_mark}
use Rattle.cv_queue.proofs.out_port.OutPort.mark_sent.Goals as goal

pub overflow_add-before : goal.overflow_add-before
overflow_add-before c =
    let o : OutView = record { held = c.self.inside.held.items; write = c.self.inside.write; cap = c.self.inside.cap; readers = c.self.inside.readers.items } in
    let g : slice_get o.readers c.args.reader ≡ Some c.reader_at-before.result = cc in
    let h : IsSomeAnd (slice_get o.readers c.args.reader) (HasUnsent o c.args.reader) = subst (λ (v : OutView). IsSomeAnd (slice_get v.readers c.args.reader) (HasUnsent v c.args.reader)) (sym c.self.view_is) c.requires in
    omega (arith, unsent o c.args.reader c.reader_at-before.result g h, count_within (spread o) o.write c.args.reader, c.self.invariant.0.bounded)

pub index_mut-requires : goal.index_mut-requires
index_mut-requires c =
    let g : slice_get c.self.inside.readers.items c.from.result ≡ Some c.reader_at-before.result = cc in
    omega (arith, slice_get_within c.self.inside.readers.items c.from.result c.reader_at-before.result g, c.self.inside.readers.ok.0)

pub invariant_of-self : goal.invariant_of-self
invariant_of-self c =
    let o : OutView = record { held = c.self.inside.held.items; write = c.self.inside.write; cap = c.self.inside.cap; readers = c.self.inside.readers.items } in
    let k : ℕ = c.from.result in
    let g : slice_get o.readers k ≡ Some c.reader_at-before.result = cc in
    let h : IsSomeAnd (slice_get o.readers c.args.reader) (HasUnsent o c.args.reader) = subst (λ (v : OutView). IsSomeAnd (slice_get v.readers c.args.reader) (HasUnsent v c.args.reader)) (sym c.self.view_is) c.requires in
    let u : IsSomeAnd (slice_get o.readers k) (HasUnsent o k) = subst (λ (n : ℕ). IsSomeAnd (slice_get o.readers n) (HasUnsent o n)) (sym c.from.ensures) h in
    (keeps_mark o k c.reader_at-before.result g (unsent o k c.reader_at-before.result g u) c.self.invariant.0, c.self.invariant.1, omega (arith, length-set {A = Reader}, c.self.invariant.2))
