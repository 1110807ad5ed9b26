-- The archives of two volumes are refused alike though their lowest held numbers differ, since record 1 has left neither
-- log: one has no record, the other one of page 2. Page 1 is blank in both.
use Prim.Native.Nat.{ℕ}
use mathlib.Core.Path.{◌≡◌}
use mathlib.Core.Logic.{inl, inr}
use mathlib.Core.Bool.{false}
use mathlib.Core.List.{List, [], ◌∷◌}
use lib.Dec.{eqb→eq}
use lib.ListN.{take}
use Rattle.laws.proofs.Tables.{true-not-false}
use Rattle.model.specs.Tables.{first_of}
use Rattle.model.specs.Geometry.{record_at, geometry_of}
use Rattle.model.specs.Item.{encode_change}
use Rattle.model.specs.Scan.{gone}
use Rattle.model.specs.Outcome.{one_item}
use Rattle.model.specs.declared.change.Change.TheVariants.{Format}
use Rattle.reports.specs.Reading.{scan_rows, Restarts, page_view, held_records}
use Rattle.reports.specs.Archive.{size_of, size_refusal}
use Rattle.reports.specs.Neighbours.{SamePage, SameLowest, lowest_held}
use Rattle.reports_laws.proofs.Same.{neighbours}
use Rattle.cases.specs.Opened.{opened}
use Rattle.cases.specs.Build.{small_volume}
use Rattle.cases.proofs.Cases.{equal}
use Rattle.cases.proofs.Tests.{fails}
use Rattle.cases_neighbours.proofs.Pairs.{records-equal}

abbrev v : List ℕ
v = small_volume []

abbrev w : List ℕ
w = small_volume (one_item (record_at 1) (encode_change 1 0 2 (Format 9) []) ∷ [])

restarts : Restarts v × Restarts w
unfolding opened
restarts = (eqb→eq (first_of (scan_rows v)) 0 tt, eqb→eq (first_of (scan_rows w)) 0 tt)

page-1 : SamePage v w 1
unfolding opened
page-1 =
    record {
      heading = equal (take 4 v) (take 4 w) tt;
      pages = eqb→eq (geometry_of v).pages (geometry_of w).pages tt;
      own = equal (page_view v 1).own (page_view w 1).own tt;
      chain = records-equal (held_records v 1) (held_records w 1) tt;
      written = eqb→eq (page_view v 1).written (page_view w 1).written tt;
      backup = eqb→eq (page_view v 1).backup (page_view w 1).backup tt;
      copy = λ z. absurd (z (eqb→eq (page_view v 1).backup 0 tt));
    }

pub lowest : (lowest_held v ≡ 0) × (lowest_held w ≡ 1)
unfolding opened
lowest = (eqb→eq (lowest_held v) 0 tt, eqb→eq (lowest_held w) 1 tt)

none-gone : (gone (geometry_of v) v ≡ false) × (gone (geometry_of w) w ≡ false)
unfolding opened
none-gone = (fails (gone (geometry_of v) v) tt, fails (gone (geometry_of w) w) tt)

not-asked : SameLowest v w
not-asked (inl e) = absurd (true-not-false e none-gone.0)
not-asked (inr e) = absurd (true-not-false e none-gone.1)

pub refused-alike : size_refusal (size_of v) ≡ size_refusal (size_of w)
refused-alike = (neighbours.refusals v w restarts.0 restarts.1 1 page-1 not-asked).0
