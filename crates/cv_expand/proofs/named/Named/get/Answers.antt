use Rattle.std.proofs.Common.{sym, ◌∙◌, ap}
use Rattle.cv_expand.specs.Lookup.{lookup}
use Rattle.cv_expand.proofs.Lookups.{found, missing}
use Rattle.cv_expand.proofs.named.Named.get.Goals as goal

pub returns-in-Some : goal.returns-in-Some
returns-in-Some g c =
    (rw c.as_slice.ensures at c.value_at.ensures)
    ∙ sym (found c.self.inside.pairs c.args.name.now c.in-Some.place.now (sym (c.self.invariant c.args.name.now) ∙ sym c.in-Some.ensures.value))
    ∙ ap (λ ps. lookup ps c.args.name.now) c.self.view_is

pub returns-in-None : goal.returns-in-None
returns-in-None g c =
    sym (missing c.self.inside.pairs c.args.name.now (sym (c.self.invariant c.args.name.now) ∙ sym c.in-None.ensures.value))
    ∙ ap (λ ps. lookup ps c.args.name.now) c.self.view_is
