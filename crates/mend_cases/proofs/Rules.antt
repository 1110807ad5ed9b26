-- The rows of mending's rules hold, by computation.
use Rattle.cases.specs.Rows.{Hold}
use Rattle.cases.proofs.Cases.{all}
use Rattle.mend_cases.specs.Rules.{rule_rows}

pub rule-cases : Hold rule_rows
unfolding rule_rows
rule-cases = all rule_rows tt
