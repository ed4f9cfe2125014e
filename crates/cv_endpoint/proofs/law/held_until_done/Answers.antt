use Rattle.cv_endpoint.specs.Link.{run, start}
use Rattle.cv_endpoint.proofs.Agree.{agrees_always, held_until_acked}
use Rattle.cv_endpoint.proofs.law.held_until_done.Goals as goal

pub returns-clause-producer : goal.returns-clause-producer
returns-clause-producer c out_cap readers in_cap k events a b h =
    held_until_acked k (run k events (start out_cap readers in_cap)) (agrees_always out_cap readers in_cap k events a b h)

pub returns-clause-consumer : goal.returns-clause-consumer
returns-clause-consumer c out_cap readers in_cap k events a b h =
    let g = agrees_always out_cap readers in_cap k events a b h in
    (g.arrived, g.queued)
