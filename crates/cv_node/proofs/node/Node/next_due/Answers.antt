use Rattle.std.proofs.Common.{subst}
use Rattle.cv_state.specs.Waking.{IsNextDue}
use Rattle.cv_node.specs.Journalled.{Journalled}
use Rattle.cv_node.proofs.node.Node.next_due.Goals as goal

pub returns : goal.returns
returns c = subst (λ (n : Journalled). IsNextDue n.state c.next_due.result) c.self.view_is c.next_due.ensures
