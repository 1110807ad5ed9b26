use mathlib.Core.Path.{ap, ◌∙◌}
use native.Mathlib.Omega.{arith}
use Rattle.log_scan.specs.Rows.{row_of}
use Rattle.log_scan.proofs.RowLaws.{row_below}
use Rattle.index_rows.proofs.EntryLaws.{entered}
use Rattle.index_rows.proofs.entries.enter.Goals as goal

pub offset_bounds-index-i : goal.offset_bounds-index-i
offset_bounds-index-i c = omega (arith, c.row-i.ensures, row_below c.from.result)

pub bounds-index-i : goal.bounds-index-i
bounds-index-i c = omega (arith, c.row-i.ensures, row_below c.from.result)

pub offset_bounds-index-i-2 : goal.offset_bounds-index-i-2
offset_bounds-index-i-2 c = omega (arith, c.row-i.ensures, row_below c.from.result)

pub bounds-index-i-2 : goal.bounds-index-i-2
bounds-index-i-2 c = omega (arith, c.row-i.ensures, row_below c.from.result)

pub returns : goal.returns
returns c =
    entered c.args.index c.args.n _ _ c.requires.1 (c.row-i.ensures ∙ ap row_of c.from.ensures) c.noted.ensures
