-- The calls that read volumes at their bounds: the forecast of the last page and of the one past it, an archive of 64 pages, two logs that
-- differ in their third record, and which numbers of common records are none.
use Prim.Native.Nat.{ℕ}
use mathlib.Core.Path.{◌≡◌, sym, subst, ◌∙◌}
use mathlib.Core.Logic.{◌≢◌}
use mathlib.Core.Bool.{true, false}
use mathlib.Core.List.{List, [], ◌∷◌}
use native.Mathlib.Omega.{arith}
use lib.Dec.{eqb→eq}
use lib.ListN.{length, replicate, length-replicate}
use Rattle.model.specs.Tables.{first_of, within}
use Rattle.model.specs.Geometry.{geometry_of, record_at}
use Rattle.model.specs.Item.{encode_change}
use Rattle.model.specs.Scan.{log_record}
use Rattle.reports.specs.Reading.{scan_rows}
use Rattle.model.specs.Outcome.{one_item}
use Rattle.model.specs.Restart.{inspect_of}
use Rattle.reports.specs.Forecast.{counted, forecast_row, figure_in, Asked}
use Rattle.reports.specs.Archive.{valid_from, archive_pages}
use Rattle.reports.specs.Mirror.{record_in, durable_in, same_change, common_of, mirror_of, mirror_refusal, listed, CommonRecords, numbers_of}
use Rattle.model.specs.declared.change.Change.TheVariants.{Put}
use Rattle.cases.specs.Opened.{opened}
use Rattle.cases.specs.Build.{buffer, small_volume}
use Rattle.cases.specs.Table.{record1, record2, whole}
use Rattle.reports_laws.proofs.Forecast.{forecast}
use Rattle.reports_laws.proofs.Archive.{archive}
use Rattle.reports_laws.proofs.Mirror.{mirror}
use Rattle.reports_laws.proofs.Compare.{compares}
use Rattle.cases.proofs.Tests.{holds, fails}

-- K6's log, P 2; and the same with another byte in record 3
abbrev ours : List ℕ
ours = whole []

abbrev theirs : List ℕ
theirs =
    small_volume (one_item (record_at 1) record1 ∷ one_item (record_at 2) record2
    ∷ one_item (record_at 3) (encode_change 3 1 1 (Put 1 2) (0x41 ∷ 0x43 ∷ [])) ∷ [])

-- ---- the forecast

two-pages : (geometry_of ours).pages ≡ 2
unfolding opened
two-pages = eqb→eq (geometry_of ours).pages 2 tt

last-asked : Asked ours 2 buffer
unfolding opened
last-asked =
    record {
      restarts = eqb→eq (first_of (scan_rows ours)) 0 tt;
      page = holds (within (geometry_of ours).pages 2) tt;
      size = length-replicate {A = ℕ} 256 0xAA;
    }

pub last-page : forecast_row ours 2 ≡ figure_in (inspect_of ours 2 buffer).answer
last-page = forecast.exact ours 2 buffer last-asked

pub past-the-last : forecast_row ours 3 ≡ counted 0
past-the-last = forecast.past ours 3 (omega (arith, two-pages))

-- ---- the archive

-- 64 blank pages; of 65 the row `archive: how many pages` tells none
sixty-four-valid : valid_from 64 1 (replicate 256 0) ≡ true
unfolding opened
sixty-four-valid = holds (valid_from 64 1 (replicate 256 0)) tt

pub sixty-four : archive_pages (replicate 256 0) ≡ 64
sixty-four = archive.told 64 (replicate 256 0) (omega arith) (omega arith) sixty-four-valid

-- ---- two logs

two-common : common_of ours theirs ≡ 2
unfolding opened
two-common = eqb→eq (common_of ours theirs) 2 tt

our-three : durable_in ours ≡ 3
unfolding opened
our-three = eqb→eq (durable_in ours) 3 tt

their-three : durable_in theirs ≡ 3
unfolding opened
their-three = eqb→eq (durable_in theirs) 3 tt

second-same : same_change (record_in ours 2) (record_in theirs 2) ≡ true
unfolding opened
second-same = holds (same_change (record_in ours 2) (record_in theirs 2)) tt

common : CommonRecords ours theirs 2
common = subst (λ k. CommonRecords ours theirs k) two-common (mirror.common ours theirs)

pub third-differs : same_change (record_in ours 3) (record_in theirs 3) ≡ false
third-differs = common.next (omega (arith, our-three)) (omega (arith, their-three))

true-is-false : true ≡ false → ⊥
true-is-false e = let z : ◌≡◌ {A = ℕ} 0 1 = cc in omega arith

-- one is too few, and three are too many
pub one-is-none : CommonRecords ours theirs 1 → ⊥
one-is-none c = true-is-false (sym second-same ∙ c.next (omega (arith, our-three)) (omega (arith, their-three)))

pub three-are-none : CommonRecords ours theirs 3 → ⊥
three-are-none c = true-is-false (sym (c.same 3 (omega arith) (omega arith)) ∙ third-differs)

-- page 2, whose record is common, is not listed; so no record from 3 on is of it
not-refused : mirror_refusal (mirror_of ours theirs).answer ≡ 0
unfolding opened
not-refused = eqb→eq (mirror_refusal (mirror_of ours theirs).answer) 0 tt

page-2-unlisted : listed ours theirs 2 ≡ false
unfolding opened
page-2-unlisted = fails (listed ours theirs 2) tt

pub third-of-another-page : (log_record (geometry_of theirs) theirs 3).page ≢ 2
third-of-another-page =
    ((mirror.listed ours theirs 2 not-refused (omega arith) (omega arith)).0 page-2-unlisted 3 (omega (arith, two-common))).1
    (omega (arith, their-three))

pub report-size : length (numbers_of (mirror_of ours theirs)) ≡ 66
report-size = compares.size ours theirs
