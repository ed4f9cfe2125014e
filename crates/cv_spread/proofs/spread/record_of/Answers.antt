use Rattle.std.proofs.Common.{sym, subst}
use Rattle.cv_merge.specs.Lanes.{Ascends}
use Rattle.cv_spread.proofs.Journals.{recorded, same_numbers}
use Rattle.cv_spread.proofs.spread.record_of.Goals as goal

pub merge-requires : goal.merge-requires
merge-requires c =
    subst Ascends (sym (same_numbers c.in_ok-journals.journals.items c.args.cluster.nodes c.in_ok-journals.ensures.specs)) c.honest.ensures.ascend

pub returns : goal.returns
returns c =
    recorded c.args.cluster c.in_ok-journals.journals.items c.merge.result c.honest.ensures c.in_ok-journals.ensures.entries c.in_ok-journals.ensures.specs c.merge.ensures.specs c.merge.ensures.entries
