use Rattle.std.proofs.Common.{◌↔◌, IsTrue, sym, subst}
use Rattle.cv_behave.specs.KindRow.{Deterministic}
use Rattle.cv_flow.specs.Rows.{row_of}
use Rattle.cv_flow.proofs.Alone.{right}
use Rattle.cv_flow.proofs.kind.FlowKind.is_deterministic.Goals as goal

pub returns : goal.returns
returns c = subst (λ b. IsTrue b ↔ Deterministic (row_of c.args.self)) (sym c.is_marked.ensures) (right c.args.self)
