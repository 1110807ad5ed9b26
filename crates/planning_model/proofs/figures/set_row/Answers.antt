-- `planning_model::figures::set_row` meets its contract.
use Rattle.laws.proofs.Tabulated.{length-mapped}
use Rattle.planning_model.proofs.Laws.{past-set}
use borrow.Author.Rules.{rules}
use Rattle.planning_model.proofs.figures.set_row.Goals as goal

pub returns-then-i-lt64 : goal.returns-then-i-lt64
returns-then-i-lt64 c = cc

pub returns-else-i-lt64 : goal.returns-else-i-lt64
returns-else-i-lt64 c = past-set _ c.args.pages _ 64 _ _ (search (rules, length-mapped)) c.if-i-lt64.false c.row-i.ensures
