-- `planning_model::frames::least_used` meets its contract.
use Rattle.planning_model.proofs.Laws.{least-none, least-here, least_on}
use native.Mathlib.Omega.{arith}
use mathlib.Core.Path.{sym, ◌∙◌}
use Rattle.planning_model.proofs.frames.least_used.Goals.{then-x-frames, else-x-frames}
use Rattle.planning_model.proofs.frames.least_used.Goals as goal

pub loop-i-init : goal.loop-i-init
loop-i-init c = (sym (least-none _), omega arith)

pub loop-i-preserved : goal.loop-i-preserved
loop-i-preserved c =
    let k = c.loop-i in
    elim c.if-x-frames.branch [
      | then-x-frames w ↦ (w.f-is ∙ sym (least-here _ _ (rw k.invariant.0 at w.if-x-frames.true)), omega (arith, w.f-is))
      | else-x-frames w ↦
          (w.f-is ∙ (k.invariant.0 ∙ sym (least_on _ _ (rw k.invariant.0 at w.if-x-frames.false))), omega (arith, w.f-is, k.invariant.1))
    ]
