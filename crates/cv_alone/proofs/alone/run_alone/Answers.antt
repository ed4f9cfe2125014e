use Rattle.std.proofs.Common.{List, [], ◌∷◌, ◌++◌, map, ap, ◌∙◌, subst}
use Rattle.cv_protocol.specs.declared.event.Journal.{Journal}
use Rattle.cv_protocol.specs.Journals.{IsRecordOf}
use Rattle.cv_merge.specs.Lanes.{journal_at}
use Rattle.cv_alone.proofs.Records.{ended, recorded}
use Rattle.cv_alone.proofs.alone.run_alone.Goals as goal

pub returns : goal.returns
returns c =
    let stop = c.in_ok-stop.ensures in
    let journal = c.into_journal.result in
    let told = c.into_journal.ensures in
    let held = c.in_ok-push.ensures.items ∙ ap (λ (js : List Journal). js ++ journal ∷ []) c.new-journals.ensures.items in
    let specs = c.in_ok-merged.ensures.specs ∙ ap (map (λ (j : Journal). j.spec)) held in
    let entries = subst (λ (js : List Journal). IsRecordOf (journal_at js) c.in_ok-merged.merged.entries) held c.in_ok-merged.ensures.entries in
    let sizes = c.sizes-actors in
    recorded c.args.net c.args.most c.in_ok-stop.stop c.in_ok-merged.merged c.in_ok-node.node c.go_on.new.node journal c.in_ok-node.ensures.entries c.in_ok-node.ensures.base
    (ended c.args.net c.args.most sizes.result.0 sizes.result.1 c.in_ok-stop.stop c.in_ok-node.node c.go_on.new.node sizes.ensures.actors sizes.ensures.connections stop.spent stop.quiescent stop.quiet stop.patient)
    told.entries told.spec told.replays specs entries stop.ends
