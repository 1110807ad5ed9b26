-- The whole table: every row of every part holds.
use mathlib.Core.List.{◌++◌}
use Rattle.cases.specs.Rows.{Hold}
use Rattle.cases.specs.All.{disk_rows, call_rows, turned_rows, report_rows, planning_rows, carry_rows, rows}
use Rattle.cases.specs.Examined.{examined_rows}
use Rattle.cases.specs.Forecasts.{forecast_rows}
use Rattle.cases.specs.Archives.{archive_rows}
use Rattle.cases.specs.Mirrors.{mirror_rows}
use Rattle.cases.specs.Neighbours.{neighbour_rows}
use Rattle.cases.proofs.Cases.{joined}
use Rattle.cases_disk.proofs.Disk.{disk-cases}
use Rattle.cases_calls.proofs.Calls.{call-cases}
use Rattle.cases_rings.proofs.Rings.{turned-cases}
use Rattle.cases_reports.proofs.Reports.{examined-cases, forecast-cases, archive-cases}
use Rattle.cases_mirror.proofs.Mirror.{mirror-cases}
use Rattle.cases_neighbours.proofs.Rows.{neighbour-cases}
use Rattle.cases_planning.proofs.Planning.{planning-cases}
use Rattle.cases_carry.proofs.Carry.{carry-cases}

report-cases : Hold report_rows
unfolding report_rows
report-cases =
    joined examined_rows (forecast_rows ++ (archive_rows ++ (mirror_rows ++ neighbour_rows))) examined-cases
    (joined forecast_rows (archive_rows ++ (mirror_rows ++ neighbour_rows)) forecast-cases
    (joined archive_rows (mirror_rows ++ neighbour_rows) archive-cases
    (joined mirror_rows neighbour_rows mirror-cases neighbour-cases)))

pub cases : Hold rows
unfolding rows
cases =
    joined disk_rows (call_rows ++ (turned_rows ++ (report_rows ++ (planning_rows ++ carry_rows)))) disk-cases
    (joined call_rows (turned_rows ++ (report_rows ++ (planning_rows ++ carry_rows))) call-cases
    (joined turned_rows (report_rows ++ (planning_rows ++ carry_rows)) turned-cases
    (joined report_rows (planning_rows ++ carry_rows) report-cases
    (joined planning_rows carry_rows planning-cases carry-cases))))
