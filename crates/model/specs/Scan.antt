-- The scan of a volume's log and notes, and the index that they give. States document 01, "Restart: records 1 to n have
-- right checks, ..", for any bytes, without memory or state. Restart, Inspect and the program share it.
use Rattle.std.specs.Prelude.{ℕ, zero, suc, ◌+◌, ◌-◌, ◌*◌, eqb, leb, ltb}
use mathlib.Core.{Bool.Bool, Bool.cond, Bool.◌&&◌, Bool.◌||◌, Bool.not, List.List, List.[], List.◌∷◌, List.map}
use Rattle.model.specs.Tables.{all, every, within, larger}
use Rattle.model.specs.Bytes.{field, part, all_zero}
use Rattle.model.specs.Checksum.{sealed, sealed_run}
use Rattle.model.specs.Geometry.{record_at, note_at, start, item, ring, slot_of, log_slot, note_slot}
use Rattle.model.specs.Item.{record_of, record_layout, first_is_format, note_of, note_layout, is_written}
use Rattle.model.specs.Index.{empty_index, entry_row, entry_of, set_entry, enter_note, slot_used, settled}
use Rattle.model.specs.Types.{Geometry, LogRecord, Note, Entry}

-- ---- a section

-- A section of a volume, its log or its notes: whether it is a ring, an item's bytes before its checksum, how many
-- slots it has, where they start, and the bytes of slot i, counted from 1.
pub record Section : Type 0 where
  pub ring : Bool
  pub size : ℕ
  pub slots : ℕ
  pub at : ℕ
  pub slot : ℕ → List ℕ

-- the highest number in any whole slot, or 0, of the first `count` slots: items of c bytes and their checksum, that
-- start with their number
unfoldable pub highest : ℕ → (ℕ → List ℕ) → ℕ → ℕ
highest c slot zero = 0
highest c slot (suc i) =
    let rest = highest c slot i in
    larger rest (cond (sealed c (slot (suc i))) (field 4 0 (slot (suc i))) 0)

-- no ring: "records 1 to n have right checks, slot n + 1 hasn't": n. A ring: the highest number in a whole slot
unfoldable pub count_in : List ℕ → Section → ℕ
count_in v s = cond s.ring (highest s.size s.slot s.slots) (sealed_run s.size s.slots v s.at)

-- the run start, with n numbers: f = max(1, n − L + 1), or one later if slot(f) is not whole; 1 where there is no ring
unfoldable pub first_in : Section → ℕ → ℕ
first_in s n =
    let f = suc (n - s.slots) in
    cond s.ring (cond (sealed s.size (s.slot (slot_of s.slots f))) f (suc f)) 1

-- the slots of a section that lie past slot n + 1, of `count` slots of `size` bytes that start at place at, are zero
unfoldable pub rest_zero : ℕ → ℕ → List ℕ → ℕ → ℕ → Bool
rest_zero size count v at n = all_zero (part v (at + size * (n + 1)) (size * (count - (n + 1))))

-- what follows a run from f to n: past the turn nothing is asked; before it slot n + 1 is not whole, the run starts at 1,
-- and the rest is zero
unfoldable pub ends_in : List ℕ → Section → ℕ → ℕ → Bool
ends_in v s f n =
    (leb s.slots n || (not (sealed s.size (s.slot (suc n))) && (eqb n 0 || eqb f 1)))
    && rest_zero (s.size + 4) s.slots v s.at n

-- the restart rule of a section with a run from f to n: each of its items fits, and nothing else follows
abbrev pub valid_run : List ℕ → Section → ℕ → ℕ → (ℕ → Bool) → Bool
valid_run v s f n fits = every (suc n - f) fits && ends_in v s f n

-- ---- the log

abbrev pub log_slots : Geometry → List ℕ → Section
log_slots g v =
    record { ring = ring g; size = 60; slots = g.records; at = start g (record_at 1); slot = λ i. item g v (record_at i) }

abbrev pub log_record : Geometry → List ℕ → ℕ → LogRecord
log_record g v n = record_of (item g v (log_slot g n))

-- the count of durable records, and the run start with n of them
unfoldable pub durable_count : Geometry → List ℕ → ℕ
durable_count g v = count_in v (log_slots g v)

unfoldable pub first_held : Geometry → List ℕ → ℕ → ℕ
first_held g v n = first_in (log_slots g v) n

-- the index with record n of page p entered
abbrev pub enter_record : List Entry → ℕ → ℕ → List Entry
enter_record index p n =
    let e = entry_of index p in
    set_entry index p (record { last = n; durable = n; written = e.written; slot = e.slot; backup = e.backup })

-- the index that the c records from number f on give
unfoldable pub log_index : Geometry → List ℕ → ℕ → ℕ → List Entry
log_index g v f zero = empty_index
log_index g v f (suc c) = enter_record (log_index g v f c) (log_record g v (f + c)).page (f + c)

-- the chain rule of one page, in a run from f on, for a record and the number of the page's last earlier one in the run
-- (0: none): it names that one, or, where there is none, one below the run; and only a format names none
abbrev pub linked : ℕ → ℕ → LogRecord → Bool
linked f last e = (eqb e.prev last || (eqb last 0 && within (f - 1) e.prev)) && first_is_format e

-- record n, after records that gave the index, has a right check, "obeys the layout, has its slot's number and a page
-- in range, and names the page's last earlier record; a page's first is a format"
unfoldable pub record_fits : Geometry → List ℕ → ℕ → List Entry → ℕ → Bool
record_fits g v f index n =
    let e = log_record g v n in
    all
    (sealed 60 (item g v (log_slot g n)) ∷ record_layout (item g v (log_slot g n))
    ∷ eqb e.lsn n ∷ within g.pages e.page ∷ linked f (entry_of index e.page).last e ∷ [])

-- the log keeps the restart rule (refusal 17 is that it does not)
unfoldable pub valid_log : Geometry → List ℕ → Bool
valid_log g v =
    let n = durable_count g v in
    let f = first_held g v n in
    valid_run v (log_slots g v) f n (λ i. record_fits g v f (log_index g v f i) (f + i))

-- "record 1 has left": 24's condition. Not on a fresh volume, where the run start is 2
unfoldable pub gone : Geometry → List ℕ → Bool
gone g v = let n = durable_count g v in ltb 0 n && ltb 1 (first_held g v n)

-- ---- the notes

abbrev pub note_slots : Geometry → List ℕ → Section
note_slots g v =
    record { ring = ring g; size = 12; slots = g.notes; at = start g (note_at 1); slot = λ i. item g v (note_at i) }

abbrev pub note_record : Geometry → List ℕ → ℕ → Note
note_record g v n = note_of (item g v (note_slot g n))

-- the count of notes, and the run start with n of them
unfoldable pub note_count : Geometry → List ℕ → ℕ
note_count g v = count_in v (note_slots g v)

unfoldable pub first_note : Geometry → List ℕ → ℕ → ℕ
first_note g v n = first_in (note_slots g v) n

-- the index that the log's run gives
abbrev pub indexed_run : Geometry → List ℕ → List Entry
indexed_run g v = let n = durable_count g v in let f = first_held g v n in log_index g v f (suc n - f)

-- the index that the log and the c notes from number f on give
unfoldable pub note_index : Geometry → List ℕ → ℕ → ℕ → List Entry
note_index g v f zero = indexed_run g v
note_index g v f (suc c) = enter_note (note_index g v f c) (note_record g v (f + c))

-- "isn't below that page's last note of its kind, and a backup's slot is in range and isn't in the index then"
unfoldable pub note_follows : Geometry → List Entry → Note → Bool
note_follows g index e =
    cond (is_written e) (leb (entry_of index e.page).written e.lsn)
    (all
    (leb (entry_of index e.page).backup e.lsn
    ∷ within g.slots e.slot ∷ not (slot_used e.slot index) ∷ []))

-- note k, after notes that gave the index: its check and layout, "its place's number and a page in range", and it
-- "names a durable record of its page", which is looked up only from the run's start on
unfoldable pub note_fits : Geometry → List ℕ → List Entry → ℕ → Bool
note_fits g v index k =
    let e = note_record g v k in
    let n = durable_count g v in
    all
    (sealed 12 (item g v (note_slot g k)) ∷ note_layout e ∷ eqb e.number k
    ∷ within g.pages e.page ∷ within n e.lsn
    ∷ (ltb e.lsn (first_held g v n) || eqb (log_record g v e.lsn).page e.page) ∷ note_follows g index e ∷ [])

-- the index that a volume's log and notes give: "a page with no record in the run has its backup note's number as its
-- newest", durable too
abbrev pub index_of : Geometry → List ℕ → List Entry
index_of g v =
    let k = note_count g v in
    let f = first_note g v k in
    map settled (note_index g v f (suc k - f))

-- the notes keep the restart rule (refusal 18 is that they do not); the written numbers are judged at the end
unfoldable pub valid_notes : Geometry → List ℕ → Bool
valid_notes g v =
    let k = note_count g v in
    let f = first_note g v k in
    let index = index_of g v in
    valid_run v (note_slots g v) f k (λ i. note_fits g v (note_index g v f i) (f + i))
    && every 64 (λ i. leb (entry_row index i).written (entry_row index i).last)
