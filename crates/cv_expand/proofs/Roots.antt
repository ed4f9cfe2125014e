-- The statements among the items of a script.
use Rattle.std.proofs.Common.{◌≡◌, List, [], ◌∷◌, ◌++◌, refl, ◌∙◌, ap}
use Rattle.cv_syntax.specs.declared.tree.Item.{Item}
use Rattle.cv_syntax.specs.declared.tree.Item.TheVariants as items
use Rattle.cv_syntax.specs.declared.tree.Statement.{Statement}
use Rattle.cv_expand.specs.Heads.{statement_by, statements_in}

pub a_statement : (script rest : List Item) (x : Item) (s : Statement) → script ≡ x ∷ rest → x ≡ items.Statement s → statements_in script ≡ s ∷ statements_in rest
a_statement script rest x s split is = ap statements_in split ∙ ap (λ y. statement_by y ++ statements_in rest) is

no_statement : (x : Item) → ((s : Statement) → x ≡ items.Statement s → ⊥) → statement_by x ≡ []
no_statement (items.Component c) other = refl
no_statement (items.Define d) other = refl
no_statement (items.Rule r) other = refl
no_statement (items.Apply a) other = refl
no_statement (items.Statement s) other = absurd (other s refl)

pub no_statement_there : (script rest : List Item) (x : Item) → script ≡ x ∷ rest → ((s : Statement) → x ≡ items.Statement s → ⊥) → statements_in script ≡ statements_in rest
no_statement_there script rest x split other = ap statements_in split ∙ ap (λ ss. ss ++ statements_in rest) (no_statement x other)
