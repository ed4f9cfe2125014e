-- The row of a kind: that of its family.
use Rattle.std.specs.Prelude.{Bool, true, false}
use Rattle.cv_behave.specs.KindRow.{Row}
use Rattle.cv_flow.specs.declared.kind.FlowKind.{FlowKind}
use Rattle.cv_flow.specs.declared.kind.FlowKind.TheVariants as flow
use Rattle.cv_flow.specs.Rows.{row_of as flow_row}
use Rattle.cv_calc.specs.Rows.{row_of as calc_row}
use Rattle.cv_kinds.specs.declared.kind.Kind.{Kind}
use Rattle.cv_kinds.specs.declared.kind.Kind.TheVariants as kind

unfoldable pub row_of : Kind → Row
row_of (kind.Flow k) = flow_row k
row_of (kind.Calc k) = calc_row k

abbrev pub prints : FlowKind → Bool
prints flow.Print = true
prints _ = false

-- whether the tokens that an actor of this kind takes are printed
abbrev pub is_print : Kind → Bool
is_print (kind.Flow k) = prints k
is_print (kind.Calc k) = false
