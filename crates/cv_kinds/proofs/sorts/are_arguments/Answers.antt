use Rattle.std.proofs.Common.{sym, arith}
use Rattle.std.proofs.lemmas.List.{length-map}
use Rattle.cv_kinds.specs.Table.{taking}
use Rattle.cv_kinds.proofs.States.{uneven_arguments}
use Rattle.cv_kinds.proofs.sorts.are_arguments.Goals as goal

pub returns-then-params-args : goal.returns-then-params-args
returns-then-params-args c = sym (uneven_arguments _ _ (omega (arith, length-map c.args.params.now taking)))
