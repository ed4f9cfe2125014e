use Rattle.cv_endpoint.specs.Link.{run, start}
use Rattle.cv_endpoint.proofs.Agree.{agrees_always, prefix_by_places}
use Rattle.cv_endpoint.proofs.law.received_in_order.Goals as goal

pub returns : goal.returns
returns c out_cap readers in_cap k events a b h =
    let w = run k events (start out_cap readers in_cap) in
    prefix_by_places w.got w.wrote (agrees_always out_cap readers in_cap k events a b h).ordered
