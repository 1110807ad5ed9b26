-- `inspect::restore` does what the definition says: the laws of Outcomes.antt say what each case is.
use Rattle.std.proofs.lemmas.Result.{err_from_is_err_and}
use Rattle.repair.proofs.Replays.{answered}
use Rattle.laws.proofs.Refused.{refusal-some}
use Rattle.inspect.proofs.Outcomes.{invalid, wrong-size, no-page, known, scan-refused, ready, whole, blank, below, done}
use Rattle.inspect.proofs.restore.Goals.{Else-not-page-v}
use Rattle.inspect.proofs.restore.Goals as goal

pub returns-in_err-v : goal.returns-in_err-v
returns-in_err-v c =
    let p = err_from_is_err_and c.from_residual.result c.from_residual.ensures.1 in
    rw (p.1, p.2) (invalid _ _ c.args.buffer.now _ c.in_err-v.ensures.refusal (refusal-some _))

pub returns-then-buffer-ne256 : goal.returns-then-buffer-ne256
returns-then-buffer-ne256 c =
    wrong-size c.args.volume.now c.args.page c.args.buffer.now c.in_ok-v.v c.in_ok-v.ensures.bytes c.if-buffer-ne256.true

pub returns-then-not-page-v : goal.returns-then-not-page-v
returns-then-not-page-v c =
    no-page c.args.volume.now c.args.page c.args.buffer.now c.in_ok-v.v c.in_ok-v.ensures.bytes c.if-buffer-ne256.false
    c.if-not-page-v.true

pub seek-requires : goal.seek-requires
seek-requires c =
    let v = c.in_ok-v in
    (known c.args.volume.now c.args.page c.args.buffer.now v.v v.ensures.bytes, rw v.ensures.bytes at v.v.read)

pub returns-in_err-found : goal.returns-in_err-found
returns-in_err-found c =
    let p = err_from_is_err_and c.from_residual-in_err-found.result c.from_residual-in_err-found.ensures.1 in
    rw (p.1, p.2)
    (scan-refused c.args.volume.now c.args.page c.args.buffer.now c.in_ok-v.v c.in_ok-v.ensures.bytes c.if-buffer-ne256.false
    c.if-not-page-v.false _ c.in_err-found.ensures.refusal (refusal-some _))

pub returns-then-found-eq0 : goal.returns-then-found-eq0
returns-then-found-eq0 c =
    let f = c.in_ok-found in
    blank c.args.volume.now c.args.page c.args.buffer.now c.in_ok-v.v c.in_ok-v.ensures.bytes c.if-buffer-ne256.false
    c.if-not-page-v.false f.found f.ensures.refusal f.ensures.clean c.if-found-eq0.true

pub invariant_of-t : goal.invariant_of-t
invariant_of-t c =
    let f = c.in_ok-found in
    let r = ready c.args.volume.now c.args.page c.args.buffer.now c.in_ok-v.v c.in_ok-v.ensures.bytes c.if-buffer-ne256.false
    c.if-not-page-v.false f.found f.ensures.refusal f.ensures.clean in
    record { low = r.low; high = r.high; durable = r.durable; slot = r.slot }

pub follow-walked-requires : goal.follow-walked-requires
follow-walked-requires c =
    let f = c.in_ok-found in
    whole c.args.volume.now c.args.page c.args.buffer.now c.in_ok-v.v c.in_ok-v.ensures.bytes c.if-buffer-ne256.false
    c.if-not-page-v.false f.found f.ensures.refusal f.ensures.clean

pub rebuild-requires : goal.rebuild-requires
rebuild-requires c = (c.follow-walked.ensures, c.if-buffer-ne256.false)

pub returns-then-below : goal.returns-then-below
returns-then-below c =
    let f = c.in_ok-found in
    below c.args.volume.now c.args.page c.args.buffer.now c.in_ok-v.v c.in_ok-v.ensures.bytes c.if-buffer-ne256.false
    c.if-not-page-v.false f.found f.ensures.refusal f.ensures.clean c.if-found-eq0.false _ c.follow-walked.ensures _
    c.below.ensures c.if-below.true

pub returns : goal.returns
returns c =
    let f = c.in_ok-found in
    done c.args.volume.now c.args.page c.args.buffer.now c.in_ok-v.v c.in_ok-v.ensures.bytes c.if-buffer-ne256.false
    c.if-not-page-v.false f.found f.ensures.refusal f.ensures.clean c.if-found-eq0.false _ c.follow-walked.ensures _
    c.below.ensures c.if-below.false _ _ _ (answered _ _ _ _ c.follow-walked.ensures _ c.answer.ensures) c.rebuild.ensures
    c.seal.ensures
