use Rattle.cv_kinds.proofs.Promises.{exact_flow, all_but_two}
use Rattle.cv_kinds.proofs.kind.deterministic.Goals as goal

pub returns-in-Flow-clause-exact : goal.returns-in-Flow-clause-exact
returns-in-Flow-clause-exact c = exact_flow c.args.kind c.in-Flow.kind c.is_deterministic.result c.in-Flow.is c.is_deterministic.ensures

pub returns-in-Flow-clause-all_but_two : goal.returns-in-Flow-clause-all_but_two
returns-in-Flow-clause-all_but_two c = all_but_two c.args.kind c.in-Flow.kind c.is_deterministic.result c.in-Flow.is c.is_deterministic.ensures
