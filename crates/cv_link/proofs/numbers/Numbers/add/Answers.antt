use Rattle.std.proofs.Common.{◌∙◌, ap}
use Rattle.std.specs.FinSet as set
use Rattle.cv_link.proofs.Sets.{from_list_added}
use Rattle.cv_link.proofs.numbers.Numbers.add.Goals as goal

pub returns-clause-ok : goal.returns-clause-ok
returns-clause-ok c =
    from_list_added _ _ c.args.n c.in_ok-insert.ensures.updates.0
    ∙ ap (λ s. set.insert s c.args.n) c.self.view_is
