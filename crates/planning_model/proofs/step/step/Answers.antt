-- `planning_model::step::step` meets its contract.
use Rattle.planning_model.proofs.Laws.{step-read, step-change}
use Rattle.planning_model.proofs.Bounds.{touched-more}
use Rattle.planning_model.proofs.step.step.Goals as goal

pub alter-requires : goal.alter-requires
alter-requires c =
    let q = c.requires in
    (q.1, touched-more _ q.1 q.2 _ _ _ _ _ q.3 c.touch.ensures)

pub returns-in-Read : goal.returns-in-Read
returns-in-Read c = step-read _ _ _ _ _ _ c.in-Read.is c.read.ensures

pub returns-in-Change : goal.returns-in-Change
returns-in-Change c = step-change _ _ _ _ _ _ _ c.in-Change.is c.touch.ensures c.alter.ensures
