-- `planning_model::figures::with_change` meets its contract.
use Rattle.planning_model.proofs.Laws.{change-backed, change-plain}
use Rattle.planning_model.proofs.figures.with_change.Goals as goal

pub returns-then-n-every-ne0 : goal.returns-then-n-every-ne0
returns-then-n-every-ne0 c = change-plain _ _ c.if-n-every-ne0.true

pub returns : goal.returns
returns c = change-backed _ _ c.if-n-every-ne0.false
