-- `planning_model::step::replayed` meets its contract.
use mathlib.Core.Path.{sym, ◌∙◌}
use Rattle.planning_model.proofs.step.replayed.Goals as goal

pub returns-else-written : goal.returns-else-written
returns-else-written c = rw (sym c.written.ensures ∙ c.if-written.false)
