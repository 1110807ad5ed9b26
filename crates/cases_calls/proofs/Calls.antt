-- The rows on what calls make of a volume hold: states, refusals, which events may come, the traps.
use Rattle.cases.specs.Rows.{Hold}
use Rattle.cases.specs.All.{call_rows}
use Rattle.cases.proofs.Cases.{all}

pub call-cases : Hold call_rows
unfolding call_rows
call-cases = all call_rows tt
