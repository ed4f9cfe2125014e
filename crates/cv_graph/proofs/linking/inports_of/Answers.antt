use Rattle.std.proofs.Common.{sym, ◌∙◌, ap}
use Rattle.cv_kinds.specs.Names.{kind_named}
use Rattle.cv_graph.proofs.Names.{inports_count, few_inports}
use Rattle.cv_graph.proofs.linking.inports_of.Goals as goal

pub returns-in-Some-clause-count : goal.returns-in-Some-clause-count
returns-in-Some-clause-count c = c.inports.ensures ∙ inports_count c.args.actor.now c.in-Some.kind (sym (c.in-Some.ensures.named ∙ ap kind_named c.as_str.ensures))

pub returns-in-Some-clause-few : goal.returns-in-Some-clause-few
returns-in-Some-clause-few c = rw c.inports.ensures (few_inports c.in-Some.kind)
