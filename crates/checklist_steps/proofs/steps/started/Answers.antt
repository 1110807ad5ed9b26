-- `checklist_steps::steps::started` meets its contract.
use mathlib.Core.Path.{refl}
use Rattle.checklist_steps.proofs.Outcomes.{restart-is}
use Rattle.checklist_steps.proofs.steps.started.Goals as goal

pub returns : goal.returns
returns g c = let e = c.restart-o.ensures in restart-is _ _ _ _ _ e.outcome refl e.memory
