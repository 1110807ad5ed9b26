-- `append::begin::refusal` meets its contract.
use mathlib.Core.Path.{◌≡◌, ◌∙◌}
use borrow.Author.Rules.{rules}
use Rattle.model.specs.Refused.{error_number, refusal_number}
use Rattle.state.proofs.Slots.{valid-volume}
use Rattle.laws.proofs.Refused.{refusal-some}
use Rattle.append.proofs.Rows.{begin-first, begin-rows}
use Rattle.append.proofs.begin.refusal.Goals as goal

pub returns-in_err-checked : goal.returns-in_err-checked
returns-in_err-checked c = λ m e.
    let r = c.in_err-checked.field-0.0 in
    let k : error_number c.from_residual.result ≡ refusal_number r = search rules in
    k ∙ begin-first _ m _ _ (rw c.in_err-checked.was at (c.requires m e)) _ _ (refusal-some r)

pub of-requires : goal.of-requires
of-requires c = valid-volume _ _ _ _ c.requires (rw c.in_ok-checked.was)

pub returns : goal.returns
returns c = λ m e.
    begin-rows _ m _ _ (c.requires m e) _ _ _ _ _ _ (rw c.in_ok-checked.was) (rw c.of.ensures at c.of.result.read) c.frames.ensures (rw c.of.ensures at c.own.ensures) e
