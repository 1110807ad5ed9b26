-- `mend::advise`: refused by its rows, else the policy's.
use mathlib.Core.Path.{refl}
use Rattle.laws.proofs.Refused.{refusal-some}
use Rattle.mend.proofs.Cases.{advise-refused, advise-open}
use Rattle.mend.proofs.advise.Goals as goal

pub returns-in-Ok : goal.returns-in-Ok
returns-in-Ok c =
    let a = c.args in
    let p = c.in-Ok.ensures.page in
    advise-open a.volume.now a.memory.now a.s a.frame a.page 0 c.in-Ok.ensures.refusal _ refl
    (rw (p.0, p.1, p.2, p.3, p.4) at c.policy.ensures)

pub returns-in-Err : goal.returns-in-Err
returns-in-Err c =
    let a = c.args in
    advise-refused a.volume.now a.memory.now a.s a.frame a.page _ c.in-Err.ensures.refusal _ (refusal-some _)
    (rw c.from.ensures at c.plain.ensures)
