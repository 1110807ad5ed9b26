-- `index_rows::columns::Columns::entry` meets its contract.
use mathlib.Core.Path.{ap, ◌∙◌}
use native.Mathlib.Omega.{arith}
use Rattle.index_rows.specs.Columns.{column_row}
use Rattle.log_scan.proofs.RowLaws.{row_below, row_is}
use Rattle.index_rows.proofs.columns.Columns.entry.Goals as goal

pub row-requires-then-page-le64 : goal.row-requires-then-page-le64
row-requires-then-page-le64 c = omega (arith, c.row.ensures, row_below c.args.page)

pub returns-then-page-le64 : goal.returns-then-page-le64
returns-then-page-le64 c =
    c.row-then-page-le64.ensures ∙ ap (column_row c.args.self.now) (c.row.ensures ∙ row_is c.args.page c.if-page-le64.true)
