use Rattle.std.proofs.Common.{sym}
use Rattle.cv_table.proofs.Changes.{changed_there, changed_nowhere}
use Rattle.cv_table.proofs.actors.change_at.Goals as goal

pub returns-in-Some-clause-entries : goal.returns-in-Some-clause-entries
returns-in-Some-clause-entries g c =
    rw c.change.ensures (changed_there (g.C.Change.changed c.args.change.now) _ c.args.place _ (sym c.in-Some.ensures.value))

pub returns-in_default-clause-entries : goal.returns-in_default-clause-entries
returns-in_default-clause-entries g c =
    sym (changed_nowhere (g.C.Change.changed c.args.change.now) _ c.args.place (sym c.in_default.ensures.value))
