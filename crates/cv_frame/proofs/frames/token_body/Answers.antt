use Rattle.std.proofs.Common.{sym, subst}
use Rattle.cv_token.specs.Bounds.{Fits}
use Rattle.cv_frame.specs.laws.Shapes.{part_behind}
use Rattle.cv_frame.proofs.frames.token_body.Goals as goal

pub returns-in_default-conn_of : goal.returns-in_default-conn_of
returns-in_default-conn_of c = λ conn actor n t k e. c.in_default-conn_of.ensures conn k.0 (part_behind _ _ _ _ _ 0 _ c.in-Some.ensures.1 c.index-rest-0.is e)

pub returns-in_default-actor_of : goal.returns-in_default-actor_of
returns-in_default-actor_of c = λ conn actor n t k e. c.in_default-actor_of.ensures actor k.1 (part_behind _ _ _ _ _ 1 _ c.in-Some.ensures.1 c.index-rest-1.is e)

pub returns-in_default-count_of : goal.returns-in_default-count_of
returns-in_default-count_of c = λ conn actor n t k e. c.in_default-count_of.ensures n k.2 (part_behind _ _ _ _ _ 2 _ c.in-Some.ensures.1 c.index-rest-2.is e)

pub returns-then-not-fits : goal.returns-then-not-fits
returns-then-not-fits c = λ conn actor n t k e.
    let same = part_behind _ _ _ _ _ 3 _ c.in-Some.ensures.1 c.index-rest-3.is e in
    let no = c.if-not-fits.ensures.1 (subst Fits (sym same) k.3) in cc
