-- `archive_write::fill` meets its contract: the laws of Outcomes say what each case is.
use Rattle.std.proofs.lemmas.Result.{err_from_is_err_and}
use Rattle.laws.proofs.Refused.{refusal-some}
use Rattle.archive_write.proofs.Outcomes.{whole, write-refused, write-other, write-ready, write_done}
use Rattle.archive_write.proofs.fill.Goals as goal

pub returns-in_err-e-clause-answer : goal.returns-in_err-e-clause-answer
returns-in_err-e-clause-answer c =
    let p = err_from_is_err_and c.from_residual.result c.from_residual.ensures.1 in
    rw (p.1, p.2) (write-refused _ c.args.buffer.now _ c.in_err-e.ensures.refusal (refusal-some _)).0

pub returns-in_err-e-clause-buffer : goal.returns-in_err-e-clause-buffer
returns-in_err-e-clause-buffer c = (write-refused _ _ _ c.in_err-e.ensures.refusal (refusal-some _)).1

pub returns-then-buffer-e-clause-answer : goal.returns-then-buffer-e-clause-answer
returns-then-buffer-e-clause-answer c = (write-other _ _ c.in_ok-e.ensures.refusal _ c.in_ok-e.ensures.extent c.if-buffer-e.true).0

pub returns-then-buffer-e-clause-buffer : goal.returns-then-buffer-e-clause-buffer
returns-then-buffer-e-clause-buffer c = (write-other _ _ c.in_ok-e.ensures.refusal _ c.in_ok-e.ensures.extent c.if-buffer-e.true).1

pub of-requires : goal.of-requires
of-requires c = (whole _ c.in_ok-e.ensures.refusal).volume

pub segments-requires : goal.segments-requires
segments-requires c =
    write-ready _ _ c.in_ok-e.ensures.refusal _ c.in_ok-e.ensures.extent c.if-buffer-e.false _ c.of.ensures _ c.of.result.read

pub returns-clause-answer : goal.returns-clause-answer
returns-clause-answer c =
    (write_done _ _ c.in_ok-e.ensures.refusal _ c.in_ok-e.ensures.extent c.if-buffer-e.false _ c.of.ensures _ c.of.result.read
    _ c.segments.ensures).0

pub returns-clause-buffer : goal.returns-clause-buffer
returns-clause-buffer c =
    (write_done _ _ c.in_ok-e.ensures.refusal _ c.in_ok-e.ensures.extent c.if-buffer-e.false _ c.of.ensures _ c.of.result.read
    _ c.segments.ensures).1
