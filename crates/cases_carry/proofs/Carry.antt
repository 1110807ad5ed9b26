-- The rows and the worked histories of a volume that is carried over hold.
use Rattle.cases.specs.Rows.{Hold}
use Rattle.cases.specs.Opened.{opened}
use Rattle.cases.specs.Worked.{AllComputed}
use Rattle.cases.specs.All.{carry_rows}
use Rattle.cases.specs.Carried.{carried_rows}
use Rattle.cases.specs.CarriedEvents.{carried_events}
use Rattle.cases.specs.CarriedOver.{carried_histories}
use Rattle.cases.proofs.Cases.{all, joined}
use Rattle.cases_laws.proofs.Worked.{all-computed}

carried-cases : Hold carried_rows
unfolding carried_rows
carried-cases = all carried_rows tt

carried-events : Hold carried_events
unfolding carried_events
carried-events = all carried_events tt

pub carry-cases : Hold carry_rows
unfolding carry_rows
carry-cases = joined carried_rows carried_events carried-cases carried-events

pub carried-worked : AllComputed carried_histories
unfolding opened
carried-worked = all-computed carried_histories tt
