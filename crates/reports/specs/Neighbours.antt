-- What a page's repair, and its segment of the archive, depend on. States document 02, §13: "Take two volumes that both
-- restart and share a heading and P. Suppose page p has the same own image, the same chain of durable records from
-- newest back, the same last written number, and the same noted backup number and image. Inspecting p must answer the
-- same on both, class, count and refusal included, however the other pages, slots and notes differ. Where record 1 has
-- left either log, the lowest held number must also match. The archive of §6 gets the same statement for one page's
-- section."
use Rattle.std.specs.Prelude.{ℕ, ◌-◌, ◌*◌, ◌≤◌, ◌≡◌, ◌≢◌, ◌⊎◌, ◌↔◌, true, cond, List, [], eqb, length, take, get_or}
use Rattle.model.specs.Geometry.{geometry_of}
use Rattle.model.specs.Scan.{durable_count, first_held, gone}
use Rattle.reports.specs.Reading.{Restarts, page_view, held_records}
use Rattle.model.specs.Outcome.{refusal_of}
use Rattle.model.specs.Restart.{inspect_of}
use Rattle.reports.specs.Archive.{archive_length, size_of, size_refusal, archive_of, parted_from, read_of, image_at}
use Rattle.model.specs.declared.answer.Answer.TheVariants.{Done}

-- The chain is the list of all of p's records that the log holds, as bytes. Where no backup is noted there is no image
-- to match, and the slot's number may differ. The lowest held number is not among these: inspection answers the same
-- without it, and so do the archives' segments; only the archives' refusals need it.
pub record SamePage (v w : List ℕ) (p : ℕ) : Type 0 where
  pub heading : take 4 v ≡ take 4 w
  pub pages : (geometry_of v).pages ≡ (geometry_of w).pages
  pub own : (page_view v p).own ≡ (page_view w p).own
  pub chain : held_records v p ≡ held_records w p
  pub written : (page_view v p).written ≡ (page_view w p).written
  pub backup : (page_view v p).backup ≡ (page_view w p).backup
  pub copy : (page_view v p).backup ≢ 0 → (page_view v p).copy ≡ (page_view w p).copy

-- the lowest number that the log holds, 0 where it holds none
abbrev pub lowest_held : List ℕ → ℕ
lowest_held v = let g = geometry_of v in let n = durable_count g v in cond (eqb n 0) 0 (first_held g v n)

-- "Where record 1 has left either log, the lowest held number must also match"
abbrev pub SameLowest : List ℕ → List ℕ → Type 0
SameLowest v w =
    (gone (geometry_of v) v ≡ true) ⊎ (gone (geometry_of w) w ≡ true) → lowest_held v ≡ lowest_held w

pub record NeighboursClaim : Type 0 where
  pub inspect : (v w : List ℕ) → Restarts v → Restarts w → (p : ℕ) → SamePage v w p
      → (x y : List ℕ) → length x ≡ length y
      → ((inspect_of v p x).answer ≡ (inspect_of w p y).answer)
      × (refusal_of (inspect_of v p x).answer ≡ 0 → (inspect_of v p x).buffer ≡ (inspect_of w p y).buffer)
  -- "The archive of §6 gets the same statement for one page's section": length and writer are refused alike, the writer
  -- with two buffers that both have the length told for their own volume, or both have not (two archives of the same
  -- segment differ in length where other pages' segments do)
  pub refusals : (v w : List ℕ) → Restarts v → Restarts w → (p : ℕ) → SamePage v w p → SameLowest v w
      → (size_refusal (size_of v) ≡ size_refusal (size_of w))
      × ((x y : List ℕ) → (length x ≡ archive_length v) ↔ (length y ≡ archive_length w)
      → (archive_of v x).answer ≡ (archive_of w y).answer)
  -- and where they are not refused the segment is the same, as it is cut from the two archives
  pub segment : (v w : List ℕ) (p : ℕ) → SamePage v w p → 1 ≤ p → p ≤ (geometry_of v).pages
      → (x y : List ℕ) → (archive_of v x).answer ≡ Done → (archive_of w y).answer ≡ Done
      → get_or (parted_from (geometry_of v).pages (archive_of v x).buffer) (p - 1) []
      ≡ get_or (parted_from (geometry_of w).pages (archive_of w y).buffer) (p - 1) []
  -- and as it is read from any two that have that segment, of whatever number of pages
  pub image : (j k p : ℕ) (a b area room : List ℕ) → length area ≡ 256 * j → length room ≡ 256 * k
      → (read_of a area).answer ≡ Done → (read_of b room).answer ≡ Done → 1 ≤ p → p ≤ j → p ≤ k
      → get_or (parted_from j a) (p - 1) [] ≡ get_or (parted_from k b) (p - 1) []
      → image_at (read_of a area).buffer p ≡ image_at (read_of b room).buffer p
