use Rattle.std.proofs.Common.{◌≡◌, ℕ, ◌<◌, ◌^◌, sym, ap, ◌∙◌, subst, arith}
use Rattle.std.specs.Prelude.{IsSome, OnSome, slice_get}
use Rattle.std.specs.Option.{option_copied}
use Rattle.cv_queue.specs.Ports.{OutView, place, spread, count_of, IsThere, token_at, token_for}
use Rattle.cv_queue.proofs.Kept.{on_held, on_there}
use Rattle.cv_queue.proofs.out_port.OutPort.token_for.Goals as goal

pub returns-clause-written : goal.returns-clause-written
returns-clause-written c =
    let o : OutView = record { held = c.self.inside.held.items; write = c.self.inside.write; cap = c.self.inside.cap; readers = c.self.inside.readers.items } in
    let s : c.len.result ≡ spread o = omega (arith, c.len.ensures, c.self.inside.readers.ok.0) in
    let m : c.place_among.result ≡ place (spread o) c.args.reader c.args.n = c.place_among.ensures ∙ (ap (λ (r : ℕ). place r c.from.result c.args.n) s ∙ ap (λ (k : ℕ). place (spread o) k c.args.n) c.from.ensures) in
    let e : option_copied c.token_at.result ≡ token_at o c.place_among.result = subst (λ (v : OutView). option_copied c.token_at.result ≡ token_at v c.place_among.result) (sym c.self.view_is) c.token_at.ensures in
    let f : option_copied c.token_at.result ≡ token_for o c.args.reader c.args.n = e ∙ ap (λ (n : ℕ). token_at o n) m in
    subst (λ (v : OutView). OnSome c.token_at.result ((c.args.n < count_of v c.args.reader) × (c.args.n < 2 ^ 62))) c.self.view_is (on_held (λ x. x.now) c.token_at.result o c.args.reader c.args.n c.self.invariant.0 f)

pub returns-clause-there : goal.returns-clause-there
returns-clause-there c =
    let o : OutView = record { held = c.self.inside.held.items; write = c.self.inside.write; cap = c.self.inside.cap; readers = c.self.inside.readers.items } in
    let s : c.len.result ≡ spread o = omega (arith, c.len.ensures, c.self.inside.readers.ok.0) in
    let m : c.place_among.result ≡ place (spread o) c.args.reader c.args.n = c.place_among.ensures ∙ (ap (λ (r : ℕ). place r c.from.result c.args.n) s ∙ ap (λ (k : ℕ). place (spread o) k c.args.n) c.from.ensures) in
    let e : option_copied c.token_at.result ≡ token_at o c.place_among.result = subst (λ (v : OutView). option_copied c.token_at.result ≡ token_at v c.place_among.result) (sym c.self.view_is) c.token_at.ensures in
    let f : option_copied c.token_at.result ≡ token_for o c.args.reader c.args.n = e ∙ ap (λ (n : ℕ). token_at o n) m in
    subst (λ (v : OutView). IsThere v c.args.reader c.args.n (slice_get v.readers c.args.reader) → IsSome c.token_at.result) c.self.view_is (on_there (λ x. x.now) c.token_at.result o c.args.reader c.args.n c.self.invariant.0 f)
