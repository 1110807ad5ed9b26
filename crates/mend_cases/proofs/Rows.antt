-- The rows of mending hold, by computation.
use Rattle.cases.specs.Rows.{Hold}
use Rattle.cases.proofs.Cases.{all}
use Rattle.mend_cases.specs.Mendings.{mend_rows, failure_rows}

pub mend-cases : Hold mend_rows
unfolding mend_rows
mend-cases = all mend_rows tt

pub failure-cases : Hold failure_rows
unfolding failure_rows
failure-cases = all failure_rows tt
