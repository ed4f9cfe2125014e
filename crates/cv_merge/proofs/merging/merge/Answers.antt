use Rattle.std.proofs.Common.{List, sym, ap, ◌∙◌, subst}
use Rattle.cv_protocol.specs.Journals.{IsRecordOf}
use Rattle.cv_merge.specs.Lanes.{Lane, Ascends, entries_at, numbers}
use Rattle.cv_merge.proofs.Steps.{numbers_of_lanes}
use Rattle.cv_merge.proofs.merging.merge.Goals as goal

pub drain-requires : goal.drain-requires
drain-requires c =
    let opened = c.deref_mut.ensures.value ∙ c.in_ok-specs.ensures.sources in
    subst Ascends (sym (ap numbers opened ∙ numbers_of_lanes c.args.journals.items)) c.requires

pub returns-clause-entries : goal.returns-clause-entries
returns-clause-entries c =
    let opened = c.deref_mut.ensures.value ∙ c.in_ok-specs.ensures.sources in
    subst (λ (lanes : List Lane). IsRecordOf (entries_at lanes) c.in_ok-entries.entries) opened c.in_ok-entries.ensures
