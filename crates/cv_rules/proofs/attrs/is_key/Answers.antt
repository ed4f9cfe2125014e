use Rattle.std.proofs.Common.{arith}
use Rattle.std.proofs.lemmas.Grind.{common_steps}
use Rattle.std.proofs.lemmas.Str.Pattern.{split_once_first}
use Rattle.cv_rules.proofs.Keyless.{no_dot}
use Rattle.cv_rules.proofs.attrs.is_key.Goals as goal

pub returns-then-is_name : goal.returns-then-is_name
returns-then-is_name c = let h = rw c.in-Some.is at (split_once_first 46 c.args.key.now _ c.split_once.ensures.cases (omega arith)) in grind (arith, common_steps)

pub returns-else-is_name : goal.returns-else-is_name
returns-else-is_name c = let h = rw c.in-Some.is at (split_once_first 46 c.args.key.now _ c.split_once.ensures.cases (omega arith)) in grind (arith, common_steps)

pub returns-in-None : goal.returns-in-None
returns-in-None c = no_dot _ (rw c.in-None.is at (split_once_first 46 c.args.key.now _ c.split_once.ensures.cases (omega arith)))
