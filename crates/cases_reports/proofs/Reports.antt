-- The rows on single volumes that are read hold: an inspection with a report, forecast, archive.
use Rattle.cases.specs.Rows.{Hold}
use Rattle.cases.specs.Examined.{examined_rows}
use Rattle.cases.specs.Forecasts.{forecast_rows}
use Rattle.cases.specs.Archives.{archive_rows}
use Rattle.cases.proofs.Cases.{all}

pub examined-cases : Hold examined_rows
unfolding examined_rows
examined-cases = all examined_rows tt

pub forecast-cases : Hold forecast_rows
unfolding forecast_rows
forecast-cases = all forecast_rows tt

pub archive-cases : Hold archive_rows
unfolding archive_rows
archive-cases = all archive_rows tt
