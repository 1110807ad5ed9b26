-- `checklist_steps::text::row` meets its contract.
use Rattle.checklist_steps.proofs.Outcomes.{row_is}
use Rattle.checklist_steps.proofs.text.row.Goals as goal

pub returns : goal.returns
returns c = row_is _ _ _ c.min-n.ensures c.put.ensures
