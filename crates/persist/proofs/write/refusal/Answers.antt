-- `persist::write::refusal` meets its contract.
use mathlib.Core.Path.{◌≡◌, ◌∙◌}
use borrow.Author.Rules.{rules}
use Rattle.model.specs.Refused.{error_number, refusal_number}
use Rattle.laws.proofs.Refused.{refusal-some}
use Rattle.persist.proofs.Rows.{write-first, write-rows}
use Rattle.persist.proofs.write.refusal.Goals as goal

pub returns-in_err-checked : goal.returns-in_err-checked
returns-in_err-checked c =
    let a = c.args in
    let r = c.in_err-checked.field-0.0 in
    let k : error_number c.from_residual.result ≡ refusal_number r = search rules in
    k ∙ write-first a.volume.now a.memory.now a.s _ a.page (rw c.in_err-checked.was at c.requires) (refusal-some r)

pub returns : goal.returns
returns c =
    let a = c.args in
    write-rows a.volume.now a.memory.now a.s _ a.page c.requires _ _ _ _ (rw c.in_ok-checked.was)
    (rw c.of.ensures at c.of.result.read) c.holder-f.ensures c.lsn.ensures (rw c.of.ensures at c.own.ensures)
