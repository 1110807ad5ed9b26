-- `judged` is the definition of the comparison: the laws of Outcomes.antt say what each case is.
use mathlib.Core.Path.{◌≡◌, ◌∙◌}
use Rattle.std.proofs.lemmas.Result.{err_from_is_err_and}
use Rattle.compare.specs.Volumes.{both_refusal}
use Rattle.model.specs.Tables.{first_of}
use Rattle.reports.specs.Mirror.{mirror_rows}
use Rattle.compare.proofs.Outcomes.{both-is, smaller-is, counted, few, done}
use Rattle.compare.proofs.judged.Goals.{After-both}
use Rattle.compare.proofs.judged.Goals as goal

-- the refusal is that of the table
table : (c : After-both) → both_refusal c.count.result c.count-2.result ≡ first_of (mirror_rows c.args.v.now.bytes.now c.args.w.now.bytes.now)
table c = both-is _ _ _ _ c.count.ensures.refusal c.count.ensures.counts c.count-2.ensures.refusal c.count-2.ensures.counts

pub returns-in_err-a-clause-refusal : goal.returns-in_err-a-clause-refusal
returns-in_err-a-clause-refusal c =
    let p = err_from_is_err_and c.from_residual.result c.from_residual.ensures.1 in
    rw (p.1, p.2) (c.in_err-a.ensures.refusal ∙ table (goal.at.returns-in_err-a-clause-refusal c).After-both)

pub answer-answer-requires : goal.answer-answer-requires
answer-answer-requires c =
    let e = c.in_ok-a.ensures.counts in
    few _ _ _ _ (counted _ _ c.count.ensures.counts _ e.0) (counted _ _ c.count-2.ensures.counts _ e.1) _ (c.min.ensures ∙ smaller-is _ _) _ c.common-k.ensures

pub returns-clause-refusal : goal.returns-clause-refusal
returns-clause-refusal c = c.in_ok-a.ensures.refusal ∙ table (goal.at.returns-clause-refusal c).After-both

pub returns-clause-compared : goal.returns-clause-compared
returns-clause-compared c =
    let e = c.in_ok-a.ensures.counts in
    let none = c.in_ok-a.ensures.refusal ∙ table (goal.at.returns-clause-compared c).After-both in
    done _ _ _ _ (counted _ _ c.count.ensures.counts _ e.0) (counted _ _ c.count-2.ensures.counts _ e.1) _ (c.min.ensures ∙ smaller-is _ _) _ c.common-k.ensures
    none _ _ c.args.v.now.read c.args.w.now.read _ _ c.mark_behind.ensures c.mark_behind-2.ensures _ c.answer-answer.ensures
