use Rattle.std.proofs.Common.{◌≡◌, false, true, sym, ◌∙◌, arith}
use Rattle.cv_frame.proofs.Fronts.{begins_at, front_within, read_at}
use Rattle.cv_frame.proofs.format.WireFormat.judge.Goals as goal

pub returns-in-Some-2-clause-message : goal.returns-in-Some-2-clause-message
returns-in-Some-2-clause-message c =
    let found = rw c.in-Some-2.is at c.in_ok-frame.ensures.exact in
    (omega arith, front_within _ _ _ c.in-Some.ensures.1 c.if-rest-len.false, read_at _ _ _ _ c.in-Some.ensures.1 c.if-rest-len.false (omega arith) found.0 found.1)

pub returns-in-None-clause-fault : goal.returns-in-None-clause-fault
returns-in-None-clause-fault c = (
  _,
  begins_at c.args.bytes.now c.in-Some.rest.now c.in-Some.len c.in-Some.ensures.1 c.if-rest-len.false (omega arith),
  c.in_ok-is_far.ensures.0 c.if-branch.true,
)

pub returns-in-None-2-clause-fault : goal.returns-in-None-2-clause-fault
returns-in-None-2-clause-fault c =
    let none = rw c.in-None-2.is at c.in_ok-frame.ensures.exact in (
      _,
      begins_at c.args.bytes.now c.in-Some.rest.now c.in-Some.len c.in-Some.ensures.1 c.if-rest-len.false (omega arith),
      λ k. none k.f k.frame k.is,
      λ k. let far = c.in_ok-is_far.ensures.1 k in absurd (let both : false ≡ true = sym c.if-branch.false ∙ far in cc),
    )
