-- The calls that take no state: each is refused by its table, and a refusal leaves what it was lent. The proof of `ReadingClaim`.
use mathlib.Core.Path.{refl, ◌∙◌}
use mathlib.Core.Bool.{false}
use mathlib.Core.List.{List, []}
use Prim.Native.Nat.{ℕ}
use native.Mathlib.Omega.{arith}
use lib.Dec.{eqb}
use Rattle.std.specs.Prelude.{Result}
use lib.ListN.{length, replicate}
use borrow.Author.Tests.{eqb-true}
use Rattle.laws.proofs.Tables.{by_cases}
use Rattle.laws.proofs.Decided.{by-table}
use Rattle.reports_laws.proofs.Mirror.{number_is}
use Rattle.model.specs.Tables.{first_of}
use Rattle.model.specs.Refusals.{inspect_rows}
use Rattle.model.specs.Outcome.{refusal_of}
use Rattle.model.specs.Demand1.{ByTable, Refuses}
use Rattle.reports.specs.Reading.{scan_rows, whole_rows}
use Rattle.reports.specs.Examine.{Examined, examine_rows, examine_of}
use Rattle.reports.specs.Forecast.{counted, forecast_of, Told, tell_rows, tell_forecast}
use Rattle.reports.specs.Room.{no_space, room_of}
use Rattle.reports.specs.Archive.{size_of, size_refusal, Filled, archive_rows, archive_of, read_rows, read_of}
use Rattle.reports.specs.Mirror.{mirror_rows, mirror_of, mirror_refusal, CompareReport, compare_rows, compare_of}
use Rattle.reports.specs.ReadingClaim.{ReadingClaim}
use Rattle.reports.specs.declared.reading.Forecast.{Forecast}
use Rattle.reports.specs.declared.reading.Room.{Room}
use Rattle.reports.specs.declared.reading.Space.{Space}
use Rattle.laws.proofs.Refuses.{by_rows}

forecasts : (v : List ℕ) → Refuses (scan_rows v) (forecast_of v).refusal (forecast_of v).pages (replicate 64 (counted 0))
unfolding forecast_of
forecasts v = by_rows (scan_rows v) (omega arith) (λ (r : Forecast). r.refusal) (λ (r : Forecast). r.pages) _ _ _ refl refl refl

tells : (v x : List ℕ) → Refuses (tell_rows v (length x)) (tell_forecast v x).refusal (tell_forecast v x).figures x
unfolding tell_forecast
tells v x = by_rows (tell_rows v (length x)) (omega arith) (λ (r : Told). r.refusal) (λ (r : Told). r.figures) _ _ _ refl refl refl

rooms : (v : List ℕ)
    → Refuses {A = Space × Space} (scan_rows v) (room_of v).refusal ((room_of v).log, (room_of v).notes) (no_space, no_space)
unfolding room_of
rooms v =
    by_rows {A = Space × Space} (scan_rows v) (omega arith) (λ (r : Room). r.refusal) (λ (r : Room). (r.log, r.notes)) _ _
    (no_space, no_space) refl refl refl

sizes : (v : List ℕ) → ByTable (whole_rows v []) (size_refusal (size_of v))
unfolding size_of
sizes v = (by_rows {A = ℕ} (whole_rows v []) (omega arith) size_refusal (λ (r : Result ℕ ℕ). 0) _ _ 0 refl refl refl).table

writes : (v x : List ℕ) → Refuses (archive_rows v (length x)) (refusal_of (archive_of v x).answer) (archive_of v x).buffer x
unfolding archive_of archive_rows
writes v x =
    by_rows (archive_rows v (length x)) (omega arith) (λ (r : Filled). refusal_of r.answer) (λ (r : Filled). r.buffer)
    _ _ _ refl refl refl

reads : (a x : List ℕ) → Refuses (read_rows a (length x)) (refusal_of (read_of a x).answer) (read_of a x).buffer x
unfolding read_of read_rows
reads a x =
    by_rows (read_rows a (length x)) (omega arith) (λ (r : Filled). refusal_of r.answer) (λ (r : Filled). r.buffer) _ _ _ refl refl refl

compares : (v w x : List ℕ) → Refuses (compare_rows v w (length x)) (compare_of v w x).refusal (compare_of v w x).report x
unfolding compare_of compare_rows
compares v w x =
    by_rows (compare_rows v w (length x)) (omega arith) (λ (r : CompareReport). r.refusal)
    (λ (r : CompareReport). r.report) _ _ _ refl refl
    refl

examines : (v : List ℕ) (p : ℕ) (x y : List ℕ)
    → Refuses {A = List ℕ × List ℕ} (examine_rows v p (length x) (length y)) (examine_of v p x y).refusal
    ((examine_of v p x y).buffer, (examine_of v p x y).report) (x, y)
unfolding examine_of examine_rows inspect_rows
examines v p x y =
    by_rows {A = List ℕ × List ℕ} (examine_rows v p (length x) (length y)) (omega arith) (λ (r : Examined). r.refusal)
    (λ (r : Examined). (r.buffer, r.report)) _ _ (x, y) refl refl refl

-- its comparison, where it is not refused, is one of four
mirrors : (v w : List ℕ)
    → Refuses (mirror_rows v w) (mirror_refusal (mirror_of v w).answer) (mirror_of v w).touched (replicate 64 false)
unfolding mirror_of mirror_rows
mirrors v w =
    record {
      table = by-table (mirror_rows v w) (omega arith) (mirror_refusal (mirror_of v w).answer) (number_is v w);
      leaves = by_cases (eqb (first_of (mirror_rows v w)) 0)
          (λ t z. absurd (z (number_is v w ∙ eqb-true (first_of (mirror_rows v w)) 0 t)))
          (λ t z. rw t refl);
    }

pub readings : ReadingClaim
readings =
    record {
      forecast = forecasts;
      tells = tells;
      room = rooms;
      size = sizes;
      writes = writes;
      reads = reads;
      mirror = mirrors;
      compares = compares;
      examines = examines;
    }
