use Rattle.cv_endpoint.proofs.Agree.{agrees_always}
use Rattle.cv_endpoint.proofs.law.acknowledged_is_received.Goals as goal

pub returns : goal.returns
returns c out_cap readers in_cap k events a b h =
    (agrees_always out_cap readers in_cap k events a b h).confirmed
