-- `persist::backup::own` meets its contract: the rows of the note come before the slot's.
use mathlib.Core.Path.{◌≡◌, ◌∙◌}
use native.Mathlib.Omega.{arith}
use borrow.Author.Rules.{rules}
use borrow.Author.Tests.{lt-ltb}
use Rattle.model.specs.Refused.{error_number, refusal_number}
use Rattle.laws.proofs.Refused.{refusal-some}
use Rattle.persist.proofs.Rows.{backup-noted}
use Rattle.persist.proofs.backup.own.Goals as goal

pub returns-in_err-refusal : goal.returns-in_err-refusal
returns-in_err-refusal c =
    let a = c.args in
    let r = c.in_err-refusal.field-0.0 in
    let k : error_number c.from_residual.result ≡ refusal_number r = search rules in
    k ∙ backup-noted a.v.now.geometry a.v.now.bytes.now a.s a.page a.slot a.f a.lsn _ c.if-not-page-v.false c.if-not-slot-v.false
    (lt-ltb 0 a.f (omega (arith, c.if-f-eq0.false))) c.in_err-refusal.ensures (refusal-some r)
