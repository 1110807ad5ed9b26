use mathlib.Core.Path.{ap, ◌∙◌}
use Prim.Native.Nat.{ℕ}
use native.Mathlib.Omega.{arith}
use lib.ListN.{get_or}
use Rattle.model.specs.Index.{empty_entry}
use Rattle.log_scan.proofs.RowLaws.{row_below, row_is}
use Rattle.index_rows.proofs.entries.entry.Goals as goal

pub offset_bounds-index-row : goal.offset_bounds-index-row
offset_bounds-index-row c = omega (arith, c.row.ensures, row_below c.args.page)

pub bounds-index-row : goal.bounds-index-row
bounds-index-row c = omega (arith, c.row.ensures, row_below c.args.page)

pub returns-then-page-le64 : goal.returns-then-page-le64
returns-then-page-le64 c =
    ap (λ (i : ℕ). get_or c.args.index i empty_entry)
    (c.row.ensures ∙ row_is c.args.page c.if-page-le64.true)
