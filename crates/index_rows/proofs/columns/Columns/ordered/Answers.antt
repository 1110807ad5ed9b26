-- `index_rows::columns::Columns::ordered` meets its contract. The loop keeps: whether the rows passed are in order.
use mathlib.Core.Path.{sym}
use native.Mathlib.Omega.{arith}
use Rattle.laws.proofs.Tables.{every-none}
use Rattle.index_rows.proofs.ColumnLaws.{ordered-next, ordered-all}
use Rattle.index_rows.proofs.columns.Columns.ordered.Goals as goal

pub loop-i-init : goal.loop-i-init
loop-i-init c = sym (every-none _)

pub loop-i-preserved : goal.loop-i-preserved
loop-i-preserved c = ordered-next _ _ _ _ c.loop-i.invariant c.row-e.ensures

pub returns : goal.returns
returns c u = ordered-all _ c.args.pages c.requires u _ _ (omega arith) c.loop-i.invariant
