use Rattle.std.proofs.Common.{◌≡◌, ◌∙◌, List, ℕ, subst, Some}
use Rattle.cv_kinds.specs.Names.{all_kinds, first_named}
use Rattle.cv_kinds.proofs.Lines.{found_has, itself}
use Rattle.cv_kinds.proofs.names.find.Goals as goal

pub returns-clause-found : goal.returns-clause-found
returns-clause-found c = found_has c.args.name.now c.first_named.result c.first_named.ensures

pub returns-clause-only : goal.returns-clause-only
returns-clause-only c = λ kind is. c.first_named.ensures ∙ subst (λ (n : List ℕ). first_named all_kinds n ≡ Some kind) is (itself kind)
