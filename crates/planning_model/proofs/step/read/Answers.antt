-- `planning_model::step::read` meets its contract.
use Rattle.planning_model.proofs.Laws.{read_none, read-touch}
use Rattle.planning_model.proofs.step.read.Goals as goal

pub returns-then-page_row-eq0 : goal.returns-then-page_row-eq0
returns-then-page_row-eq0 c = read_none _ _ _ c.args.m _ _ c.page_row.ensures c.if-page_row-eq0.true

pub returns : goal.returns
returns c = read-touch _ _ _ _ _ _ c.page_row.ensures c.if-page_row-eq0.false c.touch.ensures
