-- `upkeep::advise`: refused by its rows, else the policy's.
use mathlib.Core.Path.{refl, sym}
use Rattle.laws.proofs.Refused.{refusal-some}
use Rattle.upkeep.proofs.Advice.{advise-refused, advise-open, advise-valid}
use Rattle.upkeep.proofs.advise.Goals as goal

pub returns-in-Err : goal.returns-in-Err
returns-in-Err c =
    let a = c.args in
    advise-refused a.volume.now a.memory.now a.s a.frame _ c.in-Err.ensures _ (refusal-some _) (rw c.from.ensures at c.plain.ensures)

pub of-requires : goal.of-requires
of-requires c = let a = c.args in advise-valid a.volume.now a.memory.now a.s a.frame (sym c.in_default.ensures)

pub returns : goal.returns
returns c =
    let a = c.args in
    advise-open a.volume.now a.memory.now a.s a.frame 0 c.in_default.ensures _ refl (rw c.of.ensures at c.policy.ensures)
