-- The rows on the functions for C hold, by computation.
use Rattle.cases.specs.Rows.{Hold}
use Rattle.cases.proofs.Cases.{all}
use Rattle.cases_c.specs.Reported.{report_rows}
use Rattle.cases_c.specs.Given.{given_rows}
use Rattle.cases_c.specs.Listing.{slot_rows, listed_rows}
use Rattle.cases_c.specs.Stated.{stated_rows}
use Rattle.cases_c.specs.Failing.{failing_rows}

pub report-cases : Hold report_rows
unfolding report_rows
report-cases = all report_rows tt

pub given-cases : Hold given_rows
unfolding given_rows
given-cases = all given_rows tt

pub slot_cases : Hold slot_rows
unfolding slot_rows
slot_cases = all slot_rows tt

pub listed-cases : Hold listed_rows
unfolding listed_rows
listed-cases = all listed_rows tt

pub stated-cases : Hold stated_rows
unfolding stated_rows
stated-cases = all stated_rows tt

pub failing-cases : Hold failing_rows
unfolding failing_rows
failing-cases = all failing_rows tt
