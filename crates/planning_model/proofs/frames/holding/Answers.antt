-- `planning_model::frames::holding` meets its contract.
use Rattle.planning_model.proofs.Laws.{holding-none, holding-here, holding-on, found-on}
use native.Mathlib.Omega.{arith}
use Rattle.planning_model.proofs.frames.holding.Goals.{then-x-page, else-x-page}
use Rattle.planning_model.proofs.frames.holding.Goals as goal

pub loop-i-init : goal.loop-i-init
loop-i-init c = holding-none _ _

pub loop-i-preserved : goal.loop-i-preserved
loop-i-preserved c =
    elim c.if-x-page.branch [
      | then-x-page w ↦ rw w.found-is (omega arith, holding-here _ _ _ w.if-x-page.true)
      | else-x-page w ↦ rw w.found-is (found-on _ _ _ _ (holding-on _ _ _ w.if-x-page.false) c.loop-i.invariant)
    ]
