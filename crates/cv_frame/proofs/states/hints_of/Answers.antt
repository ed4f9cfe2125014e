use Rattle.std.proofs.Common.{◌∙◌, sym, subst}
use Rattle.cv_frame.specs.Values.{Rise}
use Rattle.cv_frame.specs.laws.Ones.{same_hints}
use Rattle.cv_frame.specs.laws.Shapes.{same_list}
use Rattle.cv_frame.proofs.states.hints_of.Goals as goal

pub returns-then-not-rise : goal.returns-then-not-rise
returns-then-not-rise c = λ v k e.
    let found = rw c.in-Some.is at c.in_ok-hints.ensures in
    let same = same_hints _ v found.0 k.each (same_list _ _ _ found.1 e) in
    let no = c.if-not-rise.ensures.1 (subst Rise (sym (c.deref.ensures.value ∙ same)) k.rise) in cc
