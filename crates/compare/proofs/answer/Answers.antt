-- `compare::answer` meets its contract.
use Rattle.compare.proofs.Outcomes.{agree, first-lacks, second-lacks, differs}
use Rattle.compare.proofs.answer.Goals as goal

pub returns-in-true-true : goal.returns-in-true-true
returns-in-true-true c = agree _ _ _ c.in-true-true.is-0 c.in-true-true.is-1

pub returns-in-true-false : goal.returns-in-true-false
returns-in-true-false c = first-lacks _ _ _ c.in-true-false.is-0 c.in-true-false.is-1

pub returns-in-false-true : goal.returns-in-false-true
returns-in-false-true c = second-lacks _ _ _ c.in-false-true.is-0 c.in-false-true.is-1

pub returns-in-false-false : goal.returns-in-false-false
returns-in-false-false c = differs _ _ _ c.in-false-false.is-0 c.in-false-false.is-1
