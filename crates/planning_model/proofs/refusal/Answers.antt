-- `planning_model::refusal` meets its contract.
use Rattle.planning_model.proofs.Laws.{rows-none, rows-some}
use Rattle.planning_model.proofs.refusal.Goals as goal

pub returns-then-few-room-clause-rows : goal.returns-then-few-room-clause-rows
returns-then-few-room-clause-rows c = rows-none _ _ _ c.pages_fit-inside.ensures c.if-few-room.true

pub returns-clause-rows : goal.returns-clause-rows
returns-clause-rows c = rows-some _ _ _ c.pages_fit-inside.ensures c.if-few-room.false
