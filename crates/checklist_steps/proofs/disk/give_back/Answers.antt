-- `checklist_steps::disk::give_back` meets its contract.
use mathlib.Core.Path.{◌∙◌}
use native.Mathlib.Omega.{arith}
use Rattle.model.specs.Bytes.{part}
use Rattle.checklist_steps.proofs.Damage.{min-smaller, given-some, given-none}
use Rattle.checklist_steps.proofs.disk.give_back.Goals as goal

pub returns-then-from-end : goal.returns-then-from-end
unfolding part
returns-then-from-end c = given-some _ _ _ _ _ (c.min-end.ensures ∙ min-smaller _ _) _ c.put.ensures

pub returns-else-from-end : goal.returns-else-from-end
returns-else-from-end c = given-none _ _ _ _ _ (c.min-end.ensures ∙ min-smaller _ _) (omega (arith, c.if-from-end.false))
