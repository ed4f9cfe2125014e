use Rattle.cv_frame.specs.laws.Shapes.{part, same_list, same_number, stands, whole}
use Rattle.cv_frame.specs.laws.Stands.{inlet_made, inlet_stands}
use Rattle.cv_frame.proofs.ports.inlet_of.Goals as goal

pub returns-in_default-conn_of : goal.returns-in_default-conn_of
returns-in_default-conn_of c = λ v k e. c.in_default-conn_of.ensures v.conn k.conn (part _ _ _ 0 _ c.in-Some.ensures.1 c.index-parts-0.is e)

pub returns-in_default-actor_of : goal.returns-in_default-actor_of
returns-in_default-actor_of c = λ v k e. c.in_default-actor_of.ensures v.producer k.producer (part _ _ _ 1 _ c.in-Some.ensures.1 c.index-parts-1.is e)

pub returns-in_default-count_of : goal.returns-in_default-count_of
returns-in_default-count_of c = λ v k e. c.in_default-count_of.ensures v.port.taken k.taken (part _ _ _ 2 _ c.in-Some.ensures.1 c.index-parts-2.is e)

pub returns-in_default-2 : goal.returns-in_default-2
returns-in_default-2 c = λ v k e. (rw c.in_default-2.is at c.in_ok-held.ensures) v.port.held k.held (part _ _ _ 3 _ c.in-Some.ensures.1 c.index-parts-3.is e)

pub returns-in_default-3 : goal.returns-in_default-3
returns-in_default-3 c = λ v k e.
    let h = rw c.in-Some-2.is at c.in_ok-held.ensures in
    (rw c.in_default-3.is at c.in_ok-port.ensures) (inlet_stands v c.in-Some-count_of.taken c.in-Some-2.held k
    (same_number _ _ _ c.in-Some-count_of.ensures.0 k.taken c.in-Some-count_of.ensures.1 (part _ _ _ 2 _ c.in-Some.ensures.1 c.index-parts-2.is e))
    (same_list _ _ _ h.1 (part _ _ _ 3 _ c.in-Some.ensures.1 c.index-parts-3.is e)))

pub returns : goal.returns
returns c =
    let p = rw c.in-Some-3.is at c.in_ok-port.ensures in
    let h = rw c.in-Some-2.is at c.in_ok-held.ensures in
    inlet_made _ _ _ _ _ _ c.in-Some-conn_of.ensures.0 c.in-Some-actor_of.ensures.0 c.in-Some-count_of.ensures.0 h.0 p.0 p.1
    (whole _ _ _ c.in-Some.ensures
    (stands c.in-Some.parts.now 0 _ _ c.in-Some-conn_of.ensures.1 c.index-parts-0.is, (stands c.in-Some.parts.now 1 _ _ c.in-Some-actor_of.ensures.1 c.index-parts-1.is, (stands c.in-Some.parts.now 2 _ _ c.in-Some-count_of.ensures.1 c.index-parts-2.is, (stands c.in-Some.parts.now 3 _ _ h.1 c.index-parts-3.is, tt)))))
