use Rattle.std.proofs.Common.{refl, arith}
use Rattle.std.proofs.lemmas.Option.{slice_get_within}
use Rattle.cv_kinds.proofs.Wires.{below_at, rising_of}
use Rattle.cv_kinds.proofs.forming.rise.Goals as goal

pub returns-then-not-is_below : goal.returns-then-not-is_below
returns-then-not-is_below c = (λ t. absurd (cc), λ rising. c.if-not-is_below.ensures.1 (below_at c.args.connections.now c.loop-i.i _ _ c.loop-i.auto.i c.loop-i-test.true rising))

pub returns : goal.returns
returns c = (
  λ t. rising_of c.args.connections.now (λ n j k e g.
      let within = slice_get_within c.args.connections.now _ k g in
      c.loop-i.invariant n j k (omega (arith, within, c.loop-i-test.false)) e g),
  λ r. refl,
)
