-- In which order the rows of the reports' tables stand: 24 "before 21" is an exception beside those of inspection
-- (`Precedence`).
use Rattle.std.specs.Prelude.{ℕ, ◌≡◌, true, List, [], ◌∷◌}
use Rattle.reports.specs.Reading.{scan_rows, whole_rows}
use Rattle.reports.specs.Examine.{examine_rows}
use Rattle.reports.specs.Forecast.{tell_rows}
use Rattle.reports.specs.Archive.{archive_rows, read_rows}
use Rattle.reports.specs.Mirror.{mirror_rows, compare_rows}
use Rattle.model.specs.Precedence.{Exception, inspect_exceptions, ordered}

-- "24, the whole history is wanted and record 1 has left the log, before 21"
abbrev pub archive_exceptions : List Exception
archive_exceptions = (24, 21) ∷ []

-- every table of a report stands in this order
pub record ReportsOrdered : Type 0 where
  -- inspection for C, with class, start and count
  pub examine : (v : List ℕ) (page size count : ℕ) → ordered inspect_exceptions (examine_rows v page size count) ≡ true
  -- the forecast and the room left, and the forecast for C
  pub forecast : (v : List ℕ) → ordered [] (scan_rows v) ≡ true
  pub tell : (v : List ℕ) (size : ℕ) → ordered [] (tell_rows v size) ≡ true
  -- the archive's length, writer and reader
  pub size : (v : List ℕ) → ordered [] (whole_rows v []) ≡ true
  pub archive : (v : List ℕ) (size : ℕ) → ordered archive_exceptions (archive_rows v size) ≡ true
  pub read : (a : List ℕ) (size : ℕ) → ordered [] (read_rows a size) ≡ true
  -- two logs compared, and the same for C
  pub mirror : (v w : List ℕ) → ordered [] (mirror_rows v w) ≡ true
  pub compare : (v w : List ℕ) (size : ℕ) → ordered [] (compare_rows v w size) ≡ true
