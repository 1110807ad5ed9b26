-- `index_rows::columns::used` meets its contract. The loop keeps: what was counted, or what is left of the column, decides.
use mathlib.Core.Path.{◌∙◌}
use mathlib.Core.Bool.{not}
use native.Mathlib.Omega.{arith}
use lib.Dec.{eqb}
use Rattle.index_rows.proofs.ColumnLaws.{or-none, in_end, one-most, counted_next}
use Rattle.index_rows.proofs.columns.used.Goals as goal

pub loop-s-preserved : goal.loop-s-preserved
loop-s-preserved c =
    let l = c.loop-s in record {
      few = omega (arith, l.invariant.few, c.from-n.ensures, one-most (eqb c.from.result c.args.slot));
      decides = counted_next c.args.slot c.args.slots.now l.s-index l.n _ (omega arith)
          (rw c.from.ensures at c.from-n.ensures)
          ∙ l.invariant.decides;
    }

pub returns : goal.returns
returns c =
    let l = c.loop-s in
    or-none (not (eqb l.n 0)) _ (in_end c.args.slot c.args.slots.now l.s-index (omega arith)) ∙ l.invariant.decides
