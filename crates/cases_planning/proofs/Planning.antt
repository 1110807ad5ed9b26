-- The rows on rehearsals hold, the real calls beside the model.
use Rattle.cases.specs.Rows.{Hold}
use Rattle.cases.specs.All.{planning_rows}
use Rattle.cases.specs.Rehearsals.{rehearsal_cases, rehearsal_runs}
use Rattle.cases.proofs.Cases.{all, joined}

rehearsal-cases : Hold rehearsal_cases
unfolding rehearsal_cases
rehearsal-cases = all rehearsal_cases tt

rehearsal-runs : Hold rehearsal_runs
unfolding rehearsal_runs
rehearsal-runs = all rehearsal_runs tt

pub planning-cases : Hold planning_rows
unfolding planning_rows
planning-cases = joined rehearsal_cases rehearsal_runs rehearsal-cases rehearsal-runs
