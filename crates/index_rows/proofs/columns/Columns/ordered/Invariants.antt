-- `index_rows::columns::Columns::ordered` meets its contract. The loop keeps: whether the rows passed are in order.
use mathlib.Core.Path.{◌≡◌}
use lib.Dec.{leb}
use Rattle.model.specs.Tables.{every}
use Rattle.index_rows.specs.Columns.{column_row}
use Rattle.index_rows.proofs.columns.Columns.ordered.Given as goal

abbrev pub invariant-loop-i : goal.invariant-loop-i
invariant-loop-i l = l.sound ≡ every l.i (λ j. leb (column_row l.self j).written (column_row l.self j).last)
