-- `compare::pages::mark_behind` meets its contract. The loop keeps: the pages of the records passed are marked.
use mathlib.Core.Path.{◌∙◌}
use native.Mathlib.Omega.{arith}
use Rattle.compare.proofs.Marks.{behind-none, behind-same, behind-read}
use Rattle.compare.proofs.pages.mark_behind.Goals as goal

pub loop-i-init : goal.loop-i-init
loop-i-init c = (omega arith, behind-none _ _ _ _ c.told-touched _ (omega arith))

pub loop-i-preserved : goal.loop-i-preserved
loop-i-preserved c = (
  omega (arith, c.loop-i-test.true, c.loop-i.auto.i),
  c.mark.ensures
      ∙ behind-read _ _ _ _ c.told-touched _ c.loop-i.auto.i _ c.loop-i.invariant.1 _ c.record-r.ensures _ (c.from.ensures ∙ c.u16_at.ensures),
)

pub returns : goal.returns
returns c =
    c.loop-i.invariant.1
    ∙ behind-same _ _ _ _ c.told-touched _ _ (omega (arith, c.loop-i.auto.i, c.loop-i.invariant.0, c.loop-i-test.false))
