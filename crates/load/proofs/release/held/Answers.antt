-- `load::release::held`: the rows 1 and 2, then Release's own.
use Rattle.std.proofs.lemmas.Result.{err_from_is_err_and}
use Rattle.laws.proofs.Refused.{refusal-some}
use Rattle.load.proofs.Releases.{release-first, release-rows}
use Rattle.load.proofs.release.held.Goals as goal

pub returns-in_err-checked-clause-refusal : goal.returns-in_err-checked-clause-refusal
returns-in_err-checked-clause-refusal c =
    let p = err_from_is_err_and c.from_residual.result c.from_residual.ensures.1 in
    rw (p.1, p.2) (release-first _ c.args.memory.now _ _ _ (rw c.in_err-checked.was at c.requires) (refusal-some c.in_err-checked.field-0.0))

pub returns-in_err-own-clause-refusal : goal.returns-in_err-own-clause-refusal
returns-in_err-own-clause-refusal c =
    let p = err_from_is_err_and c.from_residual-in_err-own.result c.from_residual-in_err-own.ensures.1 in
    rw (p.1, p.2)
    (release-rows _ c.args.memory.now _ _ _ _ _ _ c.requires (rw c.in_ok-checked.was) c.geometry.ensures c.holder-f.ensures c.in_err-own.ensures)

pub returns-clause-refusal : goal.returns-clause-refusal
returns-clause-refusal c =
    release-rows _ c.args.memory.now _ _ _ _ _ _ c.requires (rw c.in_ok-checked.was) c.geometry.ensures c.holder-f.ensures c.in_ok-own.ensures
