-- The log archive: its bytes, its writer, its reader, and what is claimed of them. States document 02, §6: "Write an
-- archive from the durable records a restart finds: one section per page in page order, each after its count (4 bytes),
-- the records inside by number. A reader checks it, then goes through it once and rebuilds every page into a lent area
-- of P images, check bytes zero (2 if its length isn't 256 times 1 to 64), with zeros for a blank page."
use Rattle.std.specs.Prelude.{ℕ, Result, Ok, Err, zero, suc, ◌+◌, ◌-◌, ◌*◌, ◌/◌, ◌≤◌, ◌≡◌, ◌≢◌, ◌↔◌, Bool, true, cond, ◌&&◌, not, List, [], ◌∷◌, ◌++◌, eqb, leb, ltb, length, take, drop, replicate}
use Rattle.model.specs.Tables.{Row, all, first_of, within, tabulate}
use Rattle.model.specs.Bytes.{le, bytes_of, part, Octets}
use Rattle.model.specs.Checksum.{sealed}
use Rattle.model.specs.Geometry.{geometry_of}
use Rattle.model.specs.Change.{zero_body}
use Rattle.model.specs.Item.{image_page, record_of, record_layout, apply_record, frame_image}
use Rattle.model.specs.Scan.{durable_count, linked}
use Rattle.reports.specs.Reading.{whole_rows, held_records}
use Rattle.model.specs.Claim.{History, Legal, reached, inspection, shown}
use Rattle.model.specs.declared.{answer.Answer.Answer, answer.Answer.TheVariants.Done}

-- ---- the bytes

abbrev pub joined : List (List ℕ) → List ℕ
joined [] = []
joined (r ∷ rs) = r ++ joined rs

-- a segment (document 02: a section): "after its count (4 bytes), the records inside by number"
unfoldable pub segment_bytes : List (List ℕ) → List ℕ
segment_bytes rs = bytes_of 4 (length rs) ++ joined rs

-- an archive: "one section per page in page order"
unfoldable pub archive_bytes : List (List (List ℕ)) → List ℕ
archive_bytes [] = []
archive_bytes (rs ∷ ss) = segment_bytes rs ++ archive_bytes ss

-- ---- the length and the writer

-- the segments of "the durable records a restart finds"
abbrev pub segments_of : List ℕ → List (List (List ℕ))
segments_of v = tabulate (geometry_of v).pages (λ i. held_records v (suc i))

-- "The exact length is told beforehand"
abbrev pub archive_length : List ℕ → ℕ
archive_length v = 4 * (geometry_of v).pages + 64 * durable_count (geometry_of v) v

-- or the refusal's number
unfoldable pub size_of : List ℕ → Result ℕ ℕ
size_of v = let no = first_of (whole_rows v []) in cond (eqb no 0) (Ok (archive_length v)) (Err no)

-- "21, the archive buffer isn't that length, after 18"
unfoldable pub archive_rows : List ℕ → ℕ → List Row
archive_rows v size = whole_rows v ((not (eqb size (archive_length v)), 21) ∷ [])

-- what a call that fills a lent buffer leaves
pub record Filled : Type 0 where
  pub answer : Answer
  pub buffer : List ℕ

abbrev pub filled_by : List Row → List ℕ → List ℕ → Filled
filled_by rows buffer done =
    cond (eqb (first_of rows) 0) (record { answer = Done; buffer = done })
    (record { answer = Answer.Refused (first_of rows); buffer = buffer })

unfoldable pub archive_of : List ℕ → List ℕ → Filled
archive_of v buffer = filled_by (archive_rows v (length buffer)) buffer (archive_bytes (segments_of v))

-- ---- the reader

-- a record of page p's segment that may stand behind number `last` (0: none): it is linked as in a run from 1 on, and
-- its number is above
abbrev pub in_segment : ℕ → ℕ → List ℕ → Bool
in_segment p last r =
    let e = record_of r in
    all (sealed 60 r ∷ record_layout r ∷ eqb e.page p ∷ linked 1 last e ∷ ltb last e.lsn ∷ [])

unfoldable pub valid_segment : ℕ → ℕ → List (List ℕ) → Bool
valid_segment p last [] = true
valid_segment p last (r ∷ rs) = in_segment p last r && valid_segment p (record_of r).lsn rs

-- the next n records, the segment at the front, and what stands behind it
unfoldable pub records_from : ℕ → List ℕ → List (List ℕ)
records_from zero a = []
records_from (suc n) a = take 64 a ∷ records_from n (drop 64 a)

abbrev pub front_segment : List ℕ → List (List ℕ)
front_segment a = records_from (le 4 a) (drop 4 a)

abbrev pub past_segment : List ℕ → List ℕ
past_segment a = drop (4 + 64 * le 4 a) a

-- a segment's count and its records fit what is left
abbrev pub segment_fits : List ℕ → Bool
segment_fits a = leb 4 (length a) && leb (64 * le 4 a) (length a - 4)

-- an archive of k pages from page p on
unfoldable pub valid_from : ℕ → ℕ → List ℕ → Bool
valid_from zero p a = eqb (length a) 0
valid_from (suc k) p a =
    let rest = valid_from k (suc p) (past_segment a) in
    all (segment_fits a ∷ valid_segment p 0 (front_segment a) ∷ rest ∷ [])

unfoldable pub parted_from : ℕ → List ℕ → List (List (List ℕ))
parted_from zero a = []
parted_from (suc k) a = front_segment a ∷ parted_from k (past_segment a)

-- a page from its segment: replayed on zeros, "check bytes zero", "zeros for a blank page"
unfoldable pub replay_records : List (List ℕ) → List ℕ → List ℕ
replay_records [] body = body
replay_records (r ∷ rs) body = replay_records rs (apply_record r body)

unfoldable pub last_number_in : ℕ → List (List ℕ) → ℕ
last_number_in n [] = n
last_number_in n (r ∷ rs) = last_number_in (record_of r).lsn rs

abbrev pub segment_image : ℕ → List (List ℕ) → List ℕ
segment_image p [] = replicate 256 0
segment_image p (r ∷ rs) = frame_image p (last_number_in 0 (r ∷ rs)) (replay_records (r ∷ rs) zero_body)

unfoldable pub area_from : ℕ → List (List (List ℕ)) → List ℕ
area_from p [] = []
area_from p (rs ∷ ss) = segment_image p rs ++ area_from (suc p) ss

-- "2 if its length isn't 256 times 1 to 64"
abbrev pub valid_area : ℕ → Bool
valid_area n = within 64 (n / 256) && eqb n (256 * (n / 256))

-- "22, the archive breaks its rules, after 21"; how many pages it has is told by the area
unfoldable pub read_rows : List ℕ → ℕ → List Row
read_rows a size = (not (valid_area size), 2) ∷ (not (valid_from (size / 256) 1 a), 22) ∷ []

unfoldable pub read_of : List ℕ → List ℕ → Filled
read_of a area = filled_by (read_rows a (length area)) area (area_from 1 (parted_from (length area / 256) a))

-- ---- the number of pages, for a program that has no P

-- k segments were cut off: what is left is cut into at most s more; 0 where a segment does not fit or something is left
unfoldable pub pages_from : ℕ → ℕ → List ℕ → ℕ
pages_from zero k a = cond (eqb (length a) 0) k 0
pages_from (suc s) k a =
    let rest = pages_from s (suc k) (past_segment a) in
    cond (eqb (length a) 0) k (cond (segment_fits a) rest 0)

abbrev pub archive_pages : List ℕ → ℕ
archive_pages a = pages_from 64 0 a

-- the counts cut an archive into k segments, and nothing is left
unfoldable pub cut_into : ℕ → List ℕ → Bool
cut_into zero a = eqb (length a) 0
cut_into (suc k) a = segment_fits a && cut_into k (past_segment a)

-- ---- the claims, on any bytes

-- segments that obey the reader's rules
unfoldable pub valid_segments : ℕ → List (List (List ℕ)) → Bool
valid_segments p [] = true
valid_segments p (rs ∷ ss) = valid_segment p 0 rs && valid_segments (suc p) ss

abbrev pub image_at : List ℕ → ℕ → List ℕ
image_at area p = part area (256 * (p - 1)) 256

-- the number that stands for a length call's answer
abbrev pub size_refusal : Result ℕ ℕ → ℕ
size_refusal (Err n) = n
size_refusal (Ok n) = 0

-- (by which tables the calls are refused: `ReadingClaim`)
pub record ArchiveClaim : Type 0 where
  -- "what the writer wrote must read back to the same records": as long as was told, taken by the reader, and cut into
  -- the same segments
  pub back : (v buffer : List ℕ) → (archive_of v buffer).answer ≡ Done
      → ((archive_of v buffer).buffer ≡ archive_bytes (segments_of v))
      × (length (archive_of v buffer).buffer ≡ archive_length v)
      × (valid_from (geometry_of v).pages 1 (archive_of v buffer).buffer ≡ true)
      × (parted_from (geometry_of v).pages (archive_of v buffer).buffer ≡ segments_of v)
  -- an archive that is taken is the bytes of its segments (of bytes: a count's four numbers are below 256), and fits
  -- one number of pages only
  pub only : (k : ℕ) (a : List ℕ) → Octets a → valid_from k 1 a ≡ true
      → (archive_bytes (parted_from k a) ≡ a) × (length (parted_from k a) ≡ k) × (valid_segments 1 (parted_from k a) ≡ true)
  pub pages : (j k : ℕ) (a : List ℕ) → valid_from j 1 a ≡ true → valid_from k 1 a ≡ true → j ≡ k
  -- the number of pages is told: it is k exactly where the counts cut the archive into k segments, and so for an
  -- archive that is taken
  pub cut : (k : ℕ) (a : List ℕ) → 1 ≤ k → k ≤ 64 → (archive_pages a ≡ k) ↔ (cut_into k a ≡ true)
  pub told : (k : ℕ) (a : List ℕ) → 1 ≤ k → k ≤ 64 → valid_from k 1 a ≡ true → archive_pages a ≡ k

-- ---- the claim about histories

-- "the bodies and numbers that inspection gives under demand 3's damage": image p of the area beside inspection
pub record Rebuilds (h : History) (image : List ℕ) (p : ℕ) (buffer : List ℕ) : Type 0 where
  pub blank : inspection h p buffer ≡ 7 → image ≡ replicate 256 0
  pub shows : inspection h p buffer ≡ 0
      → (image_page image ≡ p) × (part image 2 2 ≡ 0 ∷ 0 ∷ [])
      × (part image 4 248 ≡ shown h p buffer) × (part image 252 4 ≡ replicate 4 0)
  -- and it gives one of these two: record 1 is there
  pub answered : inspection h p buffer ≢ 7 → inspection h p buffer ≡ 0

-- what the writer wrote after a history is read
abbrev pub ArchiveHistory : Type 0
ArchiveHistory =
    (h : History) → Legal h → (x : List ℕ) → (archive_of (reached h).volume x).answer ≡ Done
    → (area : List ℕ) → length area ≡ 256 * h.pages
    → ((read_of (archive_of (reached h).volume x).buffer area).answer ≡ Done)
    × ((p : ℕ) → 1 ≤ p → p ≤ h.pages → (buffer : List ℕ) → length buffer ≡ 256
    → Rebuilds h (image_at (read_of (archive_of (reached h).volume x).buffer area).buffer p) p buffer)
