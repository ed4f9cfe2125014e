use Rattle.cv_frame.specs.Trees.{actor_tree}
use Rattle.cv_frame.specs.Values.{IsActor}
use Rattle.cv_entry.proofs.Behind.{one_behind}
use Rattle.cv_entry.proofs.fields.actor_behind.Goals as goal

pub returns : goal.returns
returns c = one_behind IsActor actor_tree _ _ _ _ c.actor_of.result c.in_ok-rest.ensures.0 c.in_ok-rest.ensures.1 c.index-rest-0.is c.actor_of.ensures
