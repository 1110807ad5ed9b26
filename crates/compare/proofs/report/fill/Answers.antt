-- `compare::report::fill` is its definition: the laws of Reports.antt say what each case is.
use Rattle.std.proofs.lemmas.Result.{err_from_is_err_and}
use Rattle.laws.proofs.Refused.{refusal-some}
use Rattle.compare.proofs.Reports.{unread, other-length, unjudged, filled}
use Rattle.compare.proofs.report.fill.Goals as goal

pub returns-in_err-v-clause-answer : goal.returns-in_err-v-clause-answer
returns-in_err-v-clause-answer c =
    let p = err_from_is_err_and c.from_residual.result c.from_residual.ensures.1 in
    rw (p.1, p.2) (unread _ _ c.args.report.now _ (refusal-some _) c.in_err-v.ensures.refusal).0

pub returns-in_err-v-clause-report : goal.returns-in_err-v-clause-report
returns-in_err-v-clause-report c = (unread _ _ _ _ (refusal-some _) c.in_err-v.ensures.refusal).1

pub returns-then-report-ne66-clause-answer : goal.returns-then-report-ne66-clause-answer
returns-then-report-ne66-clause-answer c =
    (other-length _ _ _ _ _ c.in_ok-v.ensures.bytes.0 c.in_ok-v.ensures.bytes.1 c.in_ok-v.v.valid c.in_ok-v.w.valid c.if-report-ne66.true).0

pub returns-then-report-ne66-clause-report : goal.returns-then-report-ne66-clause-report
returns-then-report-ne66-clause-report c =
    (other-length _ _ _ _ _ c.in_ok-v.ensures.bytes.0 c.in_ok-v.ensures.bytes.1 c.in_ok-v.v.valid c.in_ok-v.w.valid c.if-report-ne66.true).1

pub returns-in_err-c-clause-answer : goal.returns-in_err-c-clause-answer
returns-in_err-c-clause-answer c =
    let p = err_from_is_err_and c.from_residual-in_err-c.result c.from_residual-in_err-c.ensures.1 in
    rw (p.1, p.2)
    (unjudged _ _ c.args.report.now _ _ c.in_ok-v.ensures.bytes.0 c.in_ok-v.ensures.bytes.1 c.in_ok-v.v.valid c.in_ok-v.w.valid
    c.if-report-ne66.false _ c.in_err-c.ensures.refusal (refusal-some _)).0

pub returns-in_err-c-clause-report : goal.returns-in_err-c-clause-report
returns-in_err-c-clause-report c =
    (unjudged _ _ _ _ _ c.in_ok-v.ensures.bytes.0 c.in_ok-v.ensures.bytes.1 c.in_ok-v.v.valid c.in_ok-v.w.valid
    c.if-report-ne66.false _ c.in_err-c.ensures.refusal (refusal-some _)).1

pub returns-clause-answer : goal.returns-clause-answer
returns-clause-answer c =
    (filled _ _ c.args.report.now _ _ c.in_ok-v.ensures.bytes.0 c.in_ok-v.ensures.bytes.1 c.in_ok-v.v.valid c.in_ok-v.w.valid
    c.if-report-ne66.false c.in_ok-c.ensures.refusal _ c.in_ok-c.ensures.compared _ c.tell.ensures).0

pub returns-clause-report : goal.returns-clause-report
returns-clause-report c =
    (filled _ _ _ _ _ c.in_ok-v.ensures.bytes.0 c.in_ok-v.ensures.bytes.1 c.in_ok-v.v.valid c.in_ok-v.w.valid
    c.if-report-ne66.false c.in_ok-c.ensures.refusal _ c.in_ok-c.ensures.compared _ c.tell.ensures).1
