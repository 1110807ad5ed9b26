-- `archive_write::measure` meets its contract: the laws of Outcomes say what each case is.
use mathlib.Core.Path.{◌≡◌, sym, ◌∙◌}
use native.Mathlib.Omega.{arith}
use Rattle.std.proofs.lemmas.Result.{err_from_is_err_and}
use Rattle.laws.proofs.Refused.{refusal-some}
use Rattle.archive_write.specs.Extent.{whole_refusal}
use Rattle.archive_write.proofs.Fronts.{pages-few}
use Rattle.archive_write.proofs.Outcomes.{scan-refused, scan-clean, whole, durable-few}
use Rattle.archive_write.proofs.measure.Goals.{Else-gone}
use Rattle.archive_write.proofs.measure.Goals as goal

here : (c : Else-gone) → 0 ≡ whole_refusal c.args.volume.now
here c = scan-clean _ _ c.in_ok-c.ensures.refusal c.in_ok-c.ensures.counts _ (sym c.gone.ensures ∙ c.if-gone.false)

pub returns-in_err-c-clause-refusal : goal.returns-in_err-c-clause-refusal
returns-in_err-c-clause-refusal c =
    let p = err_from_is_err_and c.from_residual.result c.from_residual.ensures.1 in
    rw (p.1, p.2) (scan-refused _ _ c.in_err-c.ensures.refusal (refusal-some _))

pub returns-then-gone-clause-refusal : goal.returns-then-gone-clause-refusal
returns-then-gone-clause-refusal c =
    scan-clean _ _ c.in_ok-c.ensures.refusal c.in_ok-c.ensures.counts _ (sym c.gone.ensures ∙ c.if-gone.true)

pub of-requires : goal.of-requires
of-requires c = (whole _ (here c)).volume

pub overflow_mul-size : goal.overflow_mul-size
overflow_mul-size c = omega (arith, pages-few _ _ c.of.result.valid c.of.result.read)

pub overflow_mul-size-2 : goal.overflow_mul-size-2
overflow_mul-size-2 c = omega (arith, durable-few _ (here (goal.at.overflow_mul-size-2 c).Else-gone) _ c.in_ok-c.ensures.counts)

pub overflow_add-size : goal.overflow_add-size
overflow_add-size c =
    omega (
      arith,
      pages-few _ _ c.of.result.valid c.of.result.read,
      durable-few _ (here (goal.at.overflow_add-size c).Else-gone) _ c.in_ok-c.ensures.counts,
    )

pub returns-clause-refusal : goal.returns-clause-refusal
returns-clause-refusal c = here (goal.at.returns-clause-refusal c).Else-gone
