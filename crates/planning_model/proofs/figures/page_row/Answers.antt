-- `planning_model::figures::page_row` meets its contract.
use Rattle.laws.proofs.Tabulated.{past_end, length-mapped}
use borrow.Author.Rules.{rules}
use Rattle.planning_model.proofs.figures.page_row.Goals as goal

pub returns-then-i-lt64 : goal.returns-then-i-lt64
returns-then-i-lt64 c = cc

pub returns-else-i-lt64 : goal.returns-else-i-lt64
returns-else-i-lt64 c = past_end _ c.args.pages _ 64 _ _ (search (rules, length-mapped)) c.if-i-lt64.false c.row-i.ensures
