-- `checklist_steps::steps::Live::call` meets its contract: the outcome of the command, applied.
use mathlib.Core.Path.{refl}
use Rattle.checklist_steps.proofs.Outcomes.{made-is}
use Rattle.checklist_steps.proofs.steps.Live.call.Goals as goal

pub returns : goal.returns
returns g c = let e = c.perform-o.ensures in made-is _ _ _ _ _ _ _ _ _ e.outcome refl e.memory e.volume
