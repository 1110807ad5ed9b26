-- `index_rows::columns::Columns::gather` meets its contract. The loop keeps: the rows made so far are those of the index
-- whose columns these are.
use mathlib.Core.Path.{◌≡◌}
use mathlib.Core.List.{List, map}
use lib.ListN.{length, take}
use Rattle.model.specs.Index.{settled}
use Rattle.model.specs.declared.state.Entry.{Entry}
use Rattle.index_rows.specs.Columns.{ColumnsOf}
use Rattle.index_rows.proofs.columns.Columns.gather.Given as goal

abbrev pub invariant-loop-i : goal.invariant-loop-i
invariant-loop-i l =
    record {
      long : length l.index ≡ 64;
      made : (x : List Entry) → ColumnsOf x l.self → take l.i l.index ≡ take l.i (map settled x);
    }
