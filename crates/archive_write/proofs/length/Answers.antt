-- `archive_write::length` tells what was measured.
use mathlib.Core.Path.{sym, ◌∙◌}
use Rattle.std.proofs.lemmas.Result.{err_from_is_err_and}
use Rattle.laws.proofs.Refused.{refusal-some}
use Rattle.archive_write.proofs.Outcomes.{size-none, size-refused, size-measured}
use Rattle.archive_write.proofs.length.Goals as goal

pub returns-in_err-measure-clause-refusal : goal.returns-in_err-measure-clause-refusal
returns-in_err-measure-clause-refusal c =
    let p = err_from_is_err_and c.from_residual.result c.from_residual.ensures.1 in
    rw (p.1, p.2) (c.in_err-measure.ensures.refusal ∙ sym (size-refused _))

pub returns-in_err-measure-clause-told : goal.returns-in_err-measure-clause-told
returns-in_err-measure-clause-told c =
    let p = err_from_is_err_and c.from_residual.result c.from_residual.ensures.1 in
    rw (p.1, p.2) (size-none _ _ c.in_err-measure.ensures.refusal (refusal-some c.in_err-measure.field-0.0))

pub returns-clause-told : goal.returns-clause-told
returns-clause-told c = sym (size-measured _ c.in_ok-measure.ensures.refusal _ c.in_ok-measure.ensures.extent)

pub returns-clause-refusal : goal.returns-clause-refusal
returns-clause-refusal c = c.in_ok-measure.ensures.refusal ∙ sym (size-refused _)

pub returns-clause-size : goal.returns-clause-size
returns-clause-size c = size-measured _ c.in_ok-measure.ensures.refusal _ c.in_ok-measure.ensures.extent
