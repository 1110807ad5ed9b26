-- Two pairs of volumes with other counts of slots, log records and notes that have the same page 1, as values of `SamePage`. In the first
-- record 1 has left one log alone: so without the lowest held number the archives are not refused alike.
use Prim.Native.Nat.{ℕ}
use mathlib.Core.Path.{◌≡◌, refl, ap₂}
use mathlib.Core.List.{List, [], ◌∷◌}
use native.Mathlib.Omega.{arith}
use lib.Dec.{T, eqb→eq}
use lib.ListN.{take}
use Rattle.model.specs.Tables.{first_of}
use Rattle.model.specs.Geometry.{geometry_of}
use Rattle.reports.specs.Reading.{scan_rows, Restarts, page_view, held_records}
use Rattle.reports.specs.Archive.{size_of, size_refusal}
use Rattle.reports.specs.Neighbours.{SamePage}
use Rattle.cases.specs.Opened.{opened}
use Rattle.cases.specs.Rows.{same}
use Rattle.cases.specs.Neighbours.{same_records, turned_log, whole_log, first_slot, second_slot}
use Rattle.cases.proofs.Cases.{left, right, equal}

pub records-equal : (xs ys : List (List ℕ)) → T (same_records xs ys) → xs ≡ ys
records-equal [] [] t = refl
records-equal [] (y ∷ ys) t = absurd t
records-equal (x ∷ xs) [] t = absurd t
records-equal (x ∷ xs) (y ∷ ys) t =
    ap₂ ◌∷◌ (equal x y (left (same x y) (same_records xs ys) t)) (records-equal xs ys (right (same x y) (same_records xs ys) t))

pub turned-whole : SamePage turned_log whole_log 1
unfolding opened
turned-whole =
    record {
      heading = equal (take 4 turned_log) (take 4 whole_log) tt;
      pages = eqb→eq (geometry_of turned_log).pages (geometry_of whole_log).pages tt;
      own = equal (page_view turned_log 1).own (page_view whole_log 1).own tt;
      chain = records-equal (held_records turned_log 1) (held_records whole_log 1) tt;
      written = eqb→eq (page_view turned_log 1).written (page_view whole_log 1).written tt;
      backup = eqb→eq (page_view turned_log 1).backup (page_view whole_log 1).backup tt;
      copy = λ z. equal (page_view turned_log 1).copy (page_view whole_log 1).copy tt;
    }

pub slots_apart : SamePage first_slot second_slot 1
unfolding opened
slots_apart =
    record {
      heading = equal (take 4 first_slot) (take 4 second_slot) tt;
      pages = eqb→eq (geometry_of first_slot).pages (geometry_of second_slot).pages tt;
      own = equal (page_view first_slot 1).own (page_view second_slot 1).own tt;
      chain = records-equal (held_records first_slot 1) (held_records second_slot 1) tt;
      written = eqb→eq (page_view first_slot 1).written (page_view second_slot 1).written tt;
      backup = eqb→eq (page_view first_slot 1).backup (page_view second_slot 1).backup tt;
      copy = λ z. equal (page_view first_slot 1).copy (page_view second_slot 1).copy tt;
    }

turned-restarts : Restarts turned_log
unfolding opened
turned-restarts = eqb→eq (first_of (scan_rows turned_log)) 0 tt

whole-restarts : Restarts whole_log
unfolding opened
whole-restarts = eqb→eq (first_of (scan_rows whole_log)) 0 tt

refused-24 : size_refusal (size_of turned_log) ≡ 24
unfolding opened
refused-24 = eqb→eq (size_refusal (size_of turned_log)) 24 tt

not-refused : size_refusal (size_of whole_log) ≡ 0
unfolding opened
not-refused = eqb→eq (size_refusal (size_of whole_log)) 0 tt

-- `NeighboursClaim.refusals` without `SameLowest` is false
pub needs-lowest : ((v w : List ℕ) → Restarts v → Restarts w → (p : ℕ) → SamePage v w p → size_refusal (size_of v) ≡ size_refusal (size_of w)) → ⊥
needs-lowest f =
    let e = f turned_log whole_log turned-restarts whole-restarts 1 turned-whole in
    omega (arith, e, refused-24, not-refused)
