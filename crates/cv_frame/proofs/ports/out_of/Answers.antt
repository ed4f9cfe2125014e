use Rattle.std.proofs.Common.{◌∙◌}
use Rattle.std.proofs.lemmas.Result.{IfOk-weaker}
use Rattle.cv_frame.specs.laws.Shapes.{part, stands, whole}
use Rattle.cv_frame.specs.laws.Stands.{out_told, out_made}
use Rattle.cv_frame.proofs.ports.out_of.Goals as goal

pub returns-in_default-count_of : goal.returns-in_default-count_of
returns-in_default-count_of c = λ v k e. c.in_default-count_of.ensures v.write k.write (part _ _ _ 0 _ c.in-Some.ensures.1 c.index-parts-0.is e)

pub returns-in_default-2 : goal.returns-in_default-2
returns-in_default-2 c = λ v k e. (rw c.in_default-2.is at c.in_ok-held.ensures) v.held k.held (part _ _ _ 1 _ c.in-Some.ensures.1 c.index-parts-1.is e)

pub returns-in_default-3 : goal.returns-in_default-3
returns-in_default-3 c = λ v k e. (rw c.in_default-3.is at c.in_ok-readers.ensures) k.readers k.these (part _ _ _ 2 _ c.in-Some.ensures.1 c.index-parts-2.is (e ∙ out_told v k))

pub returns : goal.returns
returns c =
    let h = rw c.in-Some-2.is at c.in_ok-held.ensures in
    let r = rw c.in-Some-3.is at c.in_ok-readers.ensures in
    let t = whole _ _ _ c.in-Some.ensures
    (stands c.in-Some.parts.now 0 _ _ c.in-Some-count_of.ensures.1 c.index-parts-0.is, (stands c.in-Some.parts.now 1 _ _ h.1 c.index-parts-1.is, (stands c.in-Some.parts.now 2 _ _ r.1 c.index-parts-2.is, tt))) in
    IfOk-weaker c.of.result _ _ (λ port at. out_made _ _ _ _ port c.in-Some-count_of.ensures.0 h.0 r.0 at t) c.of.ensures
