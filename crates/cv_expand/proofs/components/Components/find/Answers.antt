use Rattle.std.proofs.Common.{sym, ◌∙◌, ap}
use Rattle.cv_expand.specs.Lookup.{lookup}
use Rattle.cv_expand.specs.Components.{component_of}
use Rattle.cv_expand.proofs.Declared.{found, missing}
use Rattle.cv_expand.proofs.components.Components.find.Goals as goal

pub returns-in-Some : goal.returns-in-Some
returns-in-Some c =
    c.component_at.ensures
    ∙ sym (found c.self.inside.script.now c.args.name.now c.in-Some.place.now (ap (λ ps. lookup ps c.args.name.now) (sym c.self.invariant) ∙ sym c.in-Some.ensures))
    ∙ ap (λ cs. component_of cs c.args.name.now) c.self.view_is

pub returns-in-None : goal.returns-in-None
returns-in-None c =
    sym (missing c.self.inside.script.now c.args.name.now (ap (λ ps. lookup ps c.args.name.now) (sym c.self.invariant) ∙ sym c.in-None.ensures))
    ∙ ap (λ cs. component_of cs c.args.name.now) c.self.view_is
