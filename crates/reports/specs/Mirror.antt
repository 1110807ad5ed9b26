-- Two durable logs held against each other. States document 02, §11: "The answer is that they agree, which one is a
-- beginning of the other and how many records it lacks, or the first number where kind, page, range, fill or bytes
-- differ. With no damage but demand 3's: if they agree, inspecting any page both have gives the same body, or 7 from
-- both; if a number differs, that holds for each such page whose changes in both logs come before it. The pages touched
-- at or after that number in either are listed in page order."
use Rattle.std.specs.Prelude.{ℕ, zero, suc, ◌+◌, ◌-◌, ◌≤◌, ◌<◌, ◌≡◌, ◌≢◌, ◌↔◌, Bool, true, false, cond, ◌&&◌, ◌||◌, not, List, [], ◌∷◌, map, eqb, length, replicate, get_or}
use Rattle.model.specs.Tables.{Row, first_of, every, smaller, tabulate}
use Rattle.model.specs.Bytes.{part, equal_bytes}
use Rattle.model.specs.Geometry.{geometry_of, valid_volume, item, log_slot}
use Rattle.model.specs.Item.{record_of, payload_of}
use Rattle.model.specs.Scan.{valid_log, valid_notes, durable_count, log_record, gone}
use Rattle.model.specs.AbstractLog.{Logged}
use Rattle.model.specs.Claim.{History, Legal, reached, durable_of, Agree, Begins}
use Rattle.model.specs.declared.geometry.Geometry.{Geometry}
use Rattle.reports.specs.declared.reading.Comparison.{Comparison}
use Rattle.reports.specs.declared.reading.Comparison.TheVariants.{Refused, FirstLacks, SecondLacks, Differs}
use Rattle.reports.specs.declared.reading.Compared.{Compared}

-- "kind, page, range, fill or bytes": bytes 8 to 59 of a record (byte 15 is zero in every record that a restart takes)
abbrev pub same_change : List ℕ → List ℕ → Bool
same_change r t = equal_bytes (part r 8 52) (part t 8 52)

-- log record n of a volume, and the count of its durable records
abbrev pub record_in : List ℕ → ℕ → List ℕ
record_in v n = item (geometry_of v) v (log_slot (geometry_of v) n)

abbrev pub durable_in : List ℕ → ℕ
durable_in v = durable_count (geometry_of v) v

-- of the next `most` records behind number k, k and how many stand before the first change that differs
unfoldable pub common_from : ℕ → List ℕ → List ℕ → ℕ → ℕ
common_from zero v w k = k
common_from (suc most) v w k =
    let rest = common_from most v w (suc k) in
    cond (same_change (record_in v (suc k)) (record_in w (suc k))) rest k

-- the length of the common beginning
abbrev pub common_of : List ℕ → List ℕ → ℕ
common_of v w = common_from (smaller (durable_in v) (durable_in w)) v w 0

-- of n records, one behind number k is of page p
unfoldable pub touched_in : Geometry → List ℕ → ℕ → ℕ → ℕ → Bool
touched_in g v n k p = not (every (n - k) (λ i. not (eqb (log_record g v (k + suc i)).page p)))

-- refused by number, whichever of the two volumes gives it: row 1, with those behind it, and 17, 18 and 24
abbrev pub either_rows : List ℕ → List ℕ → List Row → List Row
either_rows v w rows = (not (valid_volume v && valid_volume w), 1) ∷ rows

abbrev pub later_rows : List ℕ → List ℕ → List Row
later_rows v w =
    (not (valid_log (geometry_of v) v && valid_log (geometry_of w) w), 17)
    ∷ (not (valid_notes (geometry_of v) v && valid_notes (geometry_of w) w), 18)
    ∷ (gone (geometry_of v) v || gone (geometry_of w) w, 24) ∷ []

unfoldable pub mirror_rows : List ℕ → List ℕ → List Row
mirror_rows v w = either_rows v w (later_rows v w)

-- of logs of n and m records with k in common
unfoldable pub comparison : ℕ → ℕ → ℕ → Comparison
comparison k n m =
    cond (eqb k n) (cond (eqb k m) Comparison.Agree (FirstLacks (m - k)))
    (cond (eqb k m) (SecondLacks (n - k)) (Differs (suc k)))

unfoldable pub mirror_of : List ℕ → List ℕ → Compared
mirror_of v w =
    let g = geometry_of v in
    let h = geometry_of w in
    let n = durable_in v in
    let m = durable_in w in
    let k = common_from (smaller n m) v w 0 in
    let no = first_of (mirror_rows v w) in
    cond (eqb no 0)
    (record {
      answer = comparison k n m;
      touched = tabulate 64 (λ i. touched_in g v n k (suc i) || touched_in h w m k (suc i));
    })
    (record { answer = Refused no; touched = replicate 64 false })

-- ---- the comparison as numbers, for C

-- agree, first lacks, second lacks, differs
abbrev pub kind_number : Comparison → ℕ
kind_number (Refused n) = 0
kind_number Comparison.Agree = 1
kind_number (FirstLacks n) = 2
kind_number (SecondLacks n) = 3
kind_number (Differs n) = 4

-- "how many records it lacks, or the first number where" they differ; 0 where they agree
abbrev pub count_number : Comparison → ℕ
count_number (Refused n) = 0
count_number Comparison.Agree = 0
count_number (FirstLacks n) = n
count_number (SecondLacks n) = n
count_number (Differs n) = n

abbrev pub flag : Bool → ℕ
flag b = cond b 1 0

-- 66 numbers: the kind, the count, and 1 for each page that is listed, 0 for each other
abbrev pub numbers_of : Compared → List ℕ
numbers_of c = kind_number c.answer ∷ count_number c.answer ∷ map flag c.touched

-- what the call leaves in a lent report
pub record CompareReport : Type 0 where
  pub refusal : ℕ
  pub report : List ℕ

-- a report of another length is refused behind row 1, as a buffer of another length is; a refusal leaves the report
unfoldable pub compare_rows : List ℕ → List ℕ → ℕ → List Row
compare_rows v w size = either_rows v w ((not (eqb size 66), 2) ∷ later_rows v w)

unfoldable pub compare_of : List ℕ → List ℕ → List ℕ → CompareReport
compare_of v w report =
    let no = first_of (compare_rows v w (length report)) in
    cond (eqb no 0) (record { refusal = 0; report = numbers_of (mirror_of v w) })
    (record { refusal = no; report = report })

-- ---- the claims, on any volumes

abbrev pub mirror_refusal : Comparison → ℕ
mirror_refusal (Refused n) = n
mirror_refusal Comparison.Agree = 0
mirror_refusal (FirstLacks n) = 0
mirror_refusal (SecondLacks n) = 0
mirror_refusal (Differs n) = 0

-- the comparison of the same two the other way round
abbrev pub exchanged : Comparison → Comparison
exchanged (Refused n) = Refused n
exchanged Comparison.Agree = Comparison.Agree
exchanged (FirstLacks n) = SecondLacks n
exchanged (SecondLacks n) = FirstLacks n
exchanged (Differs n) = Differs n

-- page p is listed
abbrev pub listed : List ℕ → List ℕ → ℕ → Bool
listed v w p = get_or (mirror_of v w).touched (p - 1) false

-- k records are the same change in both logs, and record k + 1, if both have it, is not
pub record CommonRecords (v w : List ℕ) (k : ℕ) : Type 0 where
  pub few : (k ≤ durable_in v) × (k ≤ durable_in w)
  pub same : (n : ℕ) → 1 ≤ n → n ≤ k → same_change (record_in v n) (record_in w n) ≡ true
  pub next : k < durable_in v → k < durable_in w → same_change (record_in v (suc k)) (record_in w (suc k)) ≡ false

-- (by which tables the two calls are refused: `ReadingClaim`)
pub record MirrorClaim : Type 0 where
  -- the two volumes have equal parts in it
  pub symmetry : (v w : List ℕ)
      → ((mirror_of w v).answer ≡ exchanged (mirror_of v w).answer) × ((mirror_of w v).touched ≡ (mirror_of v w).touched)
  pub common : (v w : List ℕ) → CommonRecords v w (common_of v w)
  -- "The pages touched at or after that number in either": a page is not listed exactly where no record behind the
  -- common beginning is of it
  pub listed : (v w : List ℕ) (p : ℕ) → mirror_refusal (mirror_of v w).answer ≡ 0 → 1 ≤ p → p ≤ 64
      → (listed v w p ≡ false)
      ↔ ((n : ℕ) → common_of v w < n
      → (n ≤ durable_in v → (log_record (geometry_of v) v n).page ≢ p)
      × (n ≤ durable_in w → (log_record (geometry_of w) w n).page ≢ p))
  -- number, previous number and check need no comparison: the records are the same up to there
  pub whole : (v w : List ℕ) → mirror_refusal (mirror_of v w).answer ≡ 0 → (n : ℕ) → 1 ≤ n → n ≤ common_of v w
      → (record_of (record_in v n) ≡ record_of (record_in w n)) × (payload_of (record_in v n) ≡ payload_of (record_in w n))

-- of the call for C: where it is not refused it is told a comparison, which is not refused
pub record CompareClaim : Type 0 where
  pub told : (v w report : List ℕ) → (compare_of v w report).refusal ≡ 0
      → (mirror_refusal (mirror_of v w).answer ≡ 0) × ((compare_of v w report).report ≡ numbers_of (mirror_of v w))
  pub size : (v w : List ℕ) → length (numbers_of (mirror_of v w)) ≡ 66

-- ---- the claims about histories

-- k is the length of the longest common beginning of two lists
pub record LongestCommon (k : ℕ) (xs ys : List Logged) : Type 0 where
  pub front : List Logged
  pub size : length front ≡ k
  pub first : Begins front xs
  pub second : Begins front ys
  pub longest : (l : List Logged) → Begins l xs → Begins l ys → length l ≤ k

-- the two volumes that histories leave, compared and not refused; the counts of pages and all others may differ
pub record MirrorHistory : Type 0 where
  -- the answer is the comparison of the two lists of durable changes
  pub durable : (h k : History) → Legal h → Legal k
      → mirror_refusal (mirror_of (reached h).volume (reached k).volume).answer ≡ 0
      → LongestCommon (common_of (reached h).volume (reached k).volume) (durable_of h) (durable_of k)
      × (durable_in (reached h).volume ≡ length (durable_of h)) × (durable_in (reached k).volume ≡ length (durable_of k))
  -- a page that both have and that is not listed inspects the same, or gives 7 from both
  pub same : (h k : History) → Legal h → Legal k
      → mirror_refusal (mirror_of (reached h).volume (reached k).volume).answer ≡ 0
      → (p : ℕ) → 1 ≤ p → p ≤ h.pages → p ≤ k.pages → listed (reached h).volume (reached k).volume p ≡ false
      → (x y : List ℕ) → length x ≡ 256 → length y ≡ 256 → Agree h k x y p
  -- "if they agree, inspecting any page both have gives the same body, or 7 from both"
  pub agreed : (h k : History) → Legal h → Legal k
      → (mirror_of (reached h).volume (reached k).volume).answer ≡ Comparison.Agree → (p : ℕ) → 1 ≤ p → p ≤ h.pages
      → p ≤ k.pages → (x y : List ℕ) → length x ≡ 256 → length y ≡ 256 → Agree h k x y p
