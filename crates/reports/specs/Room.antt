-- What room a volume has: how many more log records and notes it takes before the refusals 12 and 14, and the page that
-- then stands in the way. States document 02, §7, "12 and 14 are now given exactly if ..", for the records and notes
-- that come next after a restart.
use Rattle.std.specs.Prelude.{ℕ, suc, ◌+◌, ◌-◌, ◌≤◌, ◌<◌, ◌≡◌, Bool, true, false, cond, List, [], ◌∷◌, eqb, ltb}
use Rattle.model.specs.Tables.{all, first_of}
use Rattle.model.specs.Geometry.{geometry_of, most, most_notes, item, log_slot}
use Rattle.model.specs.Index.{entry_of}
use Rattle.model.specs.Passes.{first_from}
use Rattle.model.specs.Scan.{log_record, note_record}
use Rattle.model.specs.State.{last_number, log_full, notes_full}
use Rattle.model.specs.Restart.{restart_state}
use Rattle.reports.specs.Reading.{scan_rows, Restarts}
use Rattle.model.specs.declared.{geometry.Geometry.Geometry, state.State.State}
use Rattle.reports.specs.declared.reading.Space.{Space}
use Rattle.reports.specs.declared.reading.Room.{Room}

-- ---- the log

-- a state i records on, each of them forced and no page backed up meanwhile
abbrev pub after_records : State → ℕ → State
after_records s i =
    record {
      durable = s.durable + i;
      pending = s.pending;
      notes = s.notes;
      note = s.note;
      frames = s.frames;
      index = s.index;
    }

-- 12 after i more records. The volume is as it is: up to a whole turn the record that the next one would displace is
-- none of the new ones, which go to other slots
abbrev pub log_full_after : Geometry → List ℕ → State → ℕ → Bool
log_full_after g v s i = log_full g v (after_records s i)

-- how many records are appended before the next one is refused 12; L at most: after a whole turn the next one would
-- displace the first new one, which no backup is above
abbrev pub records_left : Geometry → List ℕ → State → ℕ
records_left g v s = first_from g.records (log_full_after g v s) 0

-- the page in the way where the log is full though numbers are left: that of the record that the next one would
-- displace; else 0
unfoldable pub log_page : Geometry → List ℕ → State → ℕ
log_page g v s =
    let n = last_number s in
    cond (all (ltb n (most g) ∷ log_full g v s ∷ [])) (log_record g v (suc n - g.records)).page 0

abbrev pub log_space : Geometry → List ℕ → State → Space
log_space g v s =
    let i = records_left g v s in
    record { count = i; page = log_page g v (after_records s i) }

-- ---- the notes

-- a state i notes on
abbrev pub after_notes : State → ℕ → State
after_notes s i =
    record {
      durable = s.durable;
      pending = s.pending;
      notes = s.notes + i;
      note = s.note;
      frames = s.frames;
      index = s.index;
    }

-- 14 after i more notes, none of the page and kind in the way. The volume is as it is: no new note stands whole in it
abbrev pub notes_full_after : Geometry → List ℕ → State → ℕ → Bool
notes_full_after g v s i = notes_full g v (after_notes s i)

-- how many notes are stored before the next one is refused 14; N at most: after a whole turn it is for the new ones to
-- say
abbrev pub notes_left : Geometry → List ℕ → State → ℕ
notes_left g v s = first_from g.notes (notes_full_after g v s) 0

-- the page in the way where the notes are full though there are slots, and numbers are left: that of the note that the
-- next one would displace; else 0
unfoldable pub note_page : Geometry → List ℕ → State → ℕ
note_page g v s =
    let k = s.notes in
    cond (all (ltb 0 g.notes ∷ ltb k (most_notes g) ∷ notes_full g v s ∷ [])) (note_record g v (suc k - g.notes)).page
    0

abbrev pub note_space : Geometry → List ℕ → State → Space
note_space g v s =
    let i = notes_left g v s in
    record { count = i; page = note_page g v (after_notes s i) }

-- ---- the call

abbrev pub no_space : Space
no_space = record { count = 0; page = 0 }

-- the room of a volume that restarts; refused 1, 17 and 18 as a restart is
unfoldable pub room_of : List ℕ → Room
room_of v =
    let no = first_of (scan_rows v) in
    let g = geometry_of v in
    let s = restart_state v in
    cond (eqb no 0) (record { refusal = 0; log = log_space g v s; notes = note_space g v s })
    (record { refusal = no; log = no_space; notes = no_space })

-- ---- the claims

-- what i forced appends leave where no page is backed up: the new records go to other slots than those of the numbers
-- that stay
pub record Appended (v : List ℕ) (i : ℕ) (w : List ℕ) (s : State) : Type 0 where
  pub durable : s.durable ≡ (restart_state v).durable + i
  pub pending : s.pending ≡ 0
  pub stays : (j : ℕ) → j ≤ (restart_state v).durable → (restart_state v).durable + i < j + (geometry_of v).records
      → item (geometry_of v) w (log_slot (geometry_of v) j) ≡ item (geometry_of v) v (log_slot (geometry_of v) j)
  pub slot : (p : ℕ) → (entry_of s.index p).slot ≡ (entry_of (restart_state v).index p).slot
  pub backup : (p : ℕ) → (entry_of s.index p).backup ≡ (entry_of (restart_state v).index p).backup

-- (by which table it is refused: `ReadingClaim`)
pub record RoomClaim : Type 0 where
  -- so many are taken, and then, short of a whole turn, the next one is refused
  pub records : (v : List ℕ) (i : ℕ) → Restarts v → i < (room_of v).log.count
      → log_full_after (geometry_of v) v (restart_state v) i ≡ false
  pub full : (v : List ℕ) → Restarts v → (room_of v).log.count < (geometry_of v).records
      → log_full_after (geometry_of v) v (restart_state v) (room_of v).log.count ≡ true
  pub notes : (v : List ℕ) (i : ℕ) → Restarts v → i < (room_of v).notes.count
      → notes_full_after (geometry_of v) v (restart_state v) i ≡ false
  pub filled : (v : List ℕ) → Restarts v → (room_of v).notes.count < (geometry_of v).notes
      → notes_full_after (geometry_of v) v (restart_state v) (room_of v).notes.count ≡ true
  -- and that is 12 of the volume and the state that the appends leave
  pub appended : (v w : List ℕ) (s : State) (i : ℕ) → i < (geometry_of v).records → Appended v i w s
      → log_full (geometry_of v) w s ≡ log_full_after (geometry_of v) v (restart_state v) i
