-- The calls that take volumes, or an archive, and no state: each is refused by its table and only so, and a
-- refusal leaves what the call was lent. States document 01, "Refusal by place": "Each is given under its condition and
-- only then", and document 02, §1: "This call, and each later one that takes volumes but no state, is refused 1, 17 and
-- 18 as a restart is." Inspect is in `Demand1`. The number of an archive's pages has no refusal: `Archive.ArchiveClaim`.
use Rattle.std.specs.Prelude.{ℕ, false, List, [], length, replicate}
use Rattle.reports.specs.Reading.{scan_rows, whole_rows}
use Rattle.model.specs.Outcome.{refusal_of}
use Rattle.model.specs.Demand1.{ByTable, Refuses}
use Rattle.reports.specs.Examine.{examine_rows, examine_of}
use Rattle.reports.specs.Forecast.{counted, forecast_of, tell_rows, tell_forecast}
use Rattle.reports.specs.Room.{no_space, room_of}
use Rattle.reports.specs.Archive.{size_of, size_refusal, archive_rows, archive_of, read_rows, read_of}
use Rattle.reports.specs.Mirror.{mirror_rows, mirror_of, mirror_refusal, compare_rows, compare_of}
use Rattle.reports.specs.declared.reading.Space.{Space}

pub record ReadingClaim : Type 0 where
  pub forecast : (v : List ℕ)
      → Refuses (scan_rows v) (forecast_of v).refusal (forecast_of v).pages (replicate 64 (counted 0))
  -- for C
  pub tells : (v figures : List ℕ)
      → Refuses (tell_rows v (length figures)) (tell_forecast v figures).refusal (tell_forecast v figures).figures figures
  pub room : (v : List ℕ)
      → Refuses {A = Space × Space} (scan_rows v) (room_of v).refusal ((room_of v).log, (room_of v).notes) (no_space, no_space)
  pub size : (v : List ℕ) → ByTable (whole_rows v []) (size_refusal (size_of v))
  pub writes : (v buffer : List ℕ)
      → Refuses (archive_rows v (length buffer)) (refusal_of (archive_of v buffer).answer) (archive_of v buffer).buffer
      buffer
  pub reads : (a area : List ℕ)
      → Refuses (read_rows a (length area)) (refusal_of (read_of a area).answer) (read_of a area).buffer area
  pub mirror : (v w : List ℕ)
      → Refuses (mirror_rows v w) (mirror_refusal (mirror_of v w).answer) (mirror_of v w).touched (replicate 64 false)
  -- for C
  pub compares : (v w report : List ℕ)
      → Refuses (compare_rows v w (length report)) (compare_of v w report).refusal (compare_of v w report).report report
  -- for C
  pub examines : (v : List ℕ) (page : ℕ) (buffer report : List ℕ)
      → Refuses {A = List ℕ × List ℕ} (examine_rows v page (length buffer) (length report))
      (examine_of v page buffer report).refusal
      ((examine_of v page buffer report).buffer, (examine_of v page buffer report).report) (buffer, report)
