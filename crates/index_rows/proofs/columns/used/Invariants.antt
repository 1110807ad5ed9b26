-- `index_rows::columns::used` meets its contract. The loop keeps: what was counted, or what is left of the column, decides.
use mathlib.Core.Path.{◌≡◌}
use mathlib.Core.Bool.{not, ◌||◌}
use Prim.Native.Nat.{◌≤◌}
use lib.Dec.{eqb}
use lib.ListN.{drop}
use Rattle.index_rows.specs.Columns.{slot_in}
use Rattle.index_rows.proofs.columns.used.Given as goal

abbrev pub invariant-loop-s : goal.invariant-loop-s
invariant-loop-s l =
    record {
      few : l.n ≤ l.s-index;
      decides : (not (eqb l.n 0) || slot_in l.slot (drop l.s-index l.slots)) ≡ slot_in l.slot l.slots;
    }
