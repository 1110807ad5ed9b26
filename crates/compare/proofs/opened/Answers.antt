-- `compare::opened`: row 1, and behind it what `judged` gives.
use Rattle.std.proofs.lemmas.Result.{err_from_is_err_and}
use Rattle.laws.proofs.Refused.{refusal-some}
use Rattle.compare.proofs.Outcomes.{unopened}
use Rattle.compare.proofs.opened.Goals as goal

pub returns-in_err-v-clause-refusal : goal.returns-in_err-v-clause-refusal
returns-in_err-v-clause-refusal c =
    let p = err_from_is_err_and c.from_residual.result c.from_residual.ensures.1 in
    rw (p.1, p.2) (unopened _ _ _ (refusal-some _) c.in_err-v.ensures.refusal)
