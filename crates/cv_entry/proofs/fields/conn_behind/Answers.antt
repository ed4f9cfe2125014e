use Rattle.cv_frame.specs.Trees.{conn_tree}
use Rattle.cv_frame.specs.Values.{IsConn}
use Rattle.cv_entry.proofs.Behind.{one_behind}
use Rattle.cv_entry.proofs.fields.conn_behind.Goals as goal

pub returns : goal.returns
returns c = one_behind IsConn conn_tree _ _ _ _ c.conn_of.result c.in_ok-rest.ensures.0 c.in_ok-rest.ensures.1 c.index-rest-0.is c.conn_of.ensures
