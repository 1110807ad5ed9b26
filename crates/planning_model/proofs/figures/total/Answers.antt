-- `planning_model::figures::total` meets its contract.
use lib.ListN.{get_or}
use Rattle.planning_model.proofs.Bounds.{sums-room}
use Rattle.planning_model.proofs.Laws.{total-none, total-more}
use Rattle.planning.specs.declared.rehearsal.Totals.{Totals}
use Rattle.planning.specs.Rehearsal.{no_figures, plus, total_of}
use native.Mathlib.Numerals.{add-one}
use native.Mathlib.Omega.{arith}
use mathlib.Core.Path.{◌≡◌, sym, ap, ◌∙◌}
use Rattle.planning_model.proofs.figures.total.Goals as goal

pub loop-r-init : goal.loop-r-init
loop-r-init c = (sym (total-none _), omega arith)

pub add-sum-requires : goal.add-sum-requires
add-sum-requires c = sums-room _ _ c.loop-r-test.true c.loop-r.invariant.1

pub loop-r-preserved : goal.loop-r-preserved
loop-r-preserved c =
    let k = c.loop-r in (
      c.add-sum.ensures.0 ∙ (ap (λ (a : Totals). plus a (get_or c.args.pages k.r-index no_figures)) k.invariant.0
          ∙ sym (total-more _ _)),
      rw (add-one k.r-index) (c.add-sum.ensures.1 k.r-index k.invariant.1),
    )

pub returns : goal.returns
returns c =
    let e : c.loop-r.r-index ≡ 64 = omega (arith, c.loop-r-test.false) in
    c.loop-r.invariant.0 ∙ ap (total_of _) e
