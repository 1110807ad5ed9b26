-- `index_rows::columns::Columns::gather` meets its contract. The loop keeps: the rows made so far are those of the index
-- whose columns these are.
use mathlib.Core.Path.{◌∙◌}
use native.Mathlib.Omega.{arith}
use lib.ListN.{length-set}
use Rattle.index_rows.proofs.ColumnLaws.{index-length, gathered-more}
use Rattle.index_rows.proofs.columns.Columns.gather.Goals as goal

pub loop-i-preserved : goal.loop-i-preserved
loop-i-preserved c =
    let l = c.loop-i in record {
      long = length-set l.index l.i _ ∙ l.invariant.long;
      made = λ x k. gathered-more x _ k l.index l.i _ (omega (arith, l.invariant.long))
          (omega (arith, index-length x _ k)) (l.invariant.made x k) c.row.ensures;
    }
