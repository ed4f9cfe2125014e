use Rattle.std.proofs.Common.{refl}
use Rattle.cv_behave.specs.KindRow.{effect_of}
use Rattle.cv_behave.proofs.Giving.{gives, one_gives}
use Rattle.cv_calc.specs.Rows.{row_of}
use Rattle.cv_calc.proofs.laws.gives_its_tokens.Goals as goal

pub returns : goal.returns
returns c = one_gives (row_of c.args._kind) refl (λ args state heads port. gives (effect_of (row_of c.args._kind) args state 0 heads).out port)
