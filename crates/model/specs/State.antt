-- The memory, the state, and when a state is well formed (document 01: sound). States document 01, "Memory, lost at a
-- cut, ..", and "A state is sound if ..", clause by clause, for any state: it is judged from the state, the geometry
-- and the number of frames alone.
use Rattle.std.specs.Prelude.{ℕ, suc, ◌+◌, ◌-◌, ◌*◌, ◌/◌, ◌%◌, Bool, true, false, cond, ◌&&◌, ◌||◌, not, List, [], ◌∷◌}
use lib.{Dec.eqb, Dec.leb, Dec.ltb, ListN.get_or, ListN.replicate}
use Rattle.model.specs.Tables.{all, every, within}
use Rattle.model.specs.Bytes.{part}
use Rattle.model.specs.Checksum.{sealed}
use Rattle.model.specs.Geometry.{ring, most, most_notes, item, log_slot, note_slot}
use Rattle.model.specs.Item.{note_layout, is_written}
use Rattle.model.specs.Index.{empty_index, entry_row, entry_of}
use Rattle.model.specs.Scan.{log_record, note_record}
use Rattle.model.specs.Types.{Geometry, Entry, Frame, PendingNote, None, Some, State}

-- ---- the memory: 16 pending records, then F frames

-- F, from the memory's length
abbrev pub frame_count : ℕ → ℕ
frame_count size = (size - 1024) / 256

-- "1,024 bytes for 16 pending records, then F frames of 256 bytes, F 1 to 16"
unfoldable pub valid_memory : ℕ → Bool
valid_memory size = all (within 16 (frame_count size) ∷ eqb size (1024 + 256 * frame_count size) ∷ [])

-- "Pending record n lies, check set, in place ((n − 1) modulo 16) + 1"
abbrev pub pending_at : ℕ → ℕ
pending_at n = 64 * ((n - 1) % 16)

abbrev pub pending_bytes : List ℕ → ℕ → List ℕ
pending_bytes m n = part m (pending_at n) 64

-- frame f, counted from 1
abbrev pub frame_at : ℕ → ℕ
frame_at f = 1024 + 256 * (f - 1)

abbrev pub frame_bytes : List ℕ → ℕ → List ℕ
frame_bytes m f = part m (frame_at f) 256

-- ---- the state

abbrev pub empty_frame : Frame
empty_frame = record { page = 0; dirty = false }

unfoldable pub zero_state : State
zero_state =
    record { durable = 0; pending = 0; notes = 0; note = None; frames = replicate 16 empty_frame; index = empty_index }

-- row i of the frame table, counted from 0, and that of frame f
abbrev pub frame_row : State → ℕ → Frame
frame_row s i = get_or s.frames i empty_frame

abbrev pub frame_of : State → ℕ → Frame
frame_of s f = frame_row s (f - 1)

-- the last number given; the last note's is `notes`
abbrev pub last_number : State → ℕ
last_number s = s.durable + s.pending

-- record j is not known to be spare: it is pending, or stands whole in its slot and its page has no noted backup at or
-- above it
unfoldable pub record_needed : Geometry → List ℕ → State → ℕ → Bool
record_needed g v s j =
    let r = item g v (log_slot g j) in
    let e = log_record g v j in
    let x = entry_of s.index e.page in
    ltb s.durable j
    || all
    (sealed 60 r ∷ eqb e.lsn j
    ∷ not (within g.pages e.page && (not (eqb x.slot 0) && leb j x.backup)) ∷ [])

-- 12: the last number is given; or, in a ring, the record that the next one would displace is needed
unfoldable pub log_full : Geometry → List ℕ → State → Bool
log_full g v s =
    let n = last_number s in
    leb (most g) n || (ring g && (leb g.records n && record_needed g v s (suc n - g.records)))

-- note j stands whole in its slot
abbrev pub note_whole : Geometry → List ℕ → ℕ → Bool
note_whole g v j = sealed 12 (item g v (note_slot g j)) && eqb (note_record g v j).number j

abbrev pub note_like : Geometry → List ℕ → ℕ → ℕ → Bool
note_like g v j i =
    eqb (note_record g v i).page (note_record g v j).page && eqb (note_record g v i).kind (note_record g v j).kind

-- note j, of k, is not known to be spare: it stands whole, and no later one up to k of its page and kind does
unfoldable pub note_needed : Geometry → List ℕ → ℕ → ℕ → Bool
note_needed g v k j =
    note_whole g v j && every (k - j) (λ i. not (note_whole g v (suc (j + i)) && note_like g v j (suc (j + i))))

-- 14: there is no note slot; or the last number is given; or, in a ring, the note that the next one would displace is
-- needed
unfoldable pub notes_full : Geometry → List ℕ → State → Bool
notes_full g v s =
    let k = s.notes in
    eqb g.notes 0
    || (leb (most_notes g) k || (ring g && (leb g.notes k && note_needed g v k (suc k - g.notes))))

abbrev pub note_pending : PendingNote → Bool
note_pending None = false
note_pending (Some n) = true

-- the frame that holds page p, counted from 1, or 0
unfoldable pub holder_from : ℕ → ℕ → List Frame → ℕ
holder_from i p [] = 0
holder_from i p (f ∷ fs) = let rest = holder_from (suc i) p fs in cond (eqb f.page p) (suc i) rest

abbrev pub holder : State → ℕ → ℕ
holder s p = holder_from 0 p s.frames

-- the page is in some frame
abbrev pub held : State → ℕ → Bool
held s p = ltb 0 (holder s p)

-- the page is blank: "newest number 0"
abbrev pub blank : State → ℕ → Bool
blank s p = eqb (entry_of s.index p).last 0

-- ---- well formed

-- "an owed note obeys the layout, its own number notes + 1, its page 1 to P, a backup's slot 1 to B, its page log
-- number at most the durable count"; notes are "below N if one is owed"
unfoldable pub pending_note_fits : Geometry → ℕ → ℕ → PendingNote → Bool
pending_note_fits g notes durable None = true
pending_note_fits g notes durable (Some n) =
    all
    (ltb notes (most_notes g) ∷ ltb 0 g.notes ∷ note_layout n ∷ eqb n.number (notes + 1)
    ∷ within g.pages n.page ∷ (is_written n || within g.slots n.slot) ∷ leb n.lsn durable ∷ [])

-- no frame before frame i, counted from 0, holds its page
abbrev pub first_holder : State → ℕ → Bool
first_holder s i = every i (λ j. not (eqb (frame_row s j).page (frame_row s i).page))

-- of frame i, counted from 0: "frame pages are 0 to P, none twice and no page in a frame blank"; "empty frames are
-- clean, as are all past F, which are empty"
unfoldable pub frame_fits : Geometry → ℕ → State → ℕ → Bool
frame_fits g frames s i =
    let f = frame_row s i in
    let empty = eqb f.page 0 in
    all
    (leb f.page g.pages ∷ (empty || first_holder s i) ∷ (empty || not (blank s f.page))
    ∷ (not empty || not f.dirty) ∷ (ltb i frames || empty) ∷ [])

-- "newest is at most durable + pending, newest durable at most newest and the durable count, written and backup numbers
-- at most newest durable, the slot at most B"; "a page in no frame has its newest equal to its newest durable"
unfoldable pub entry_fits : Geometry → State → ℕ → Entry → Bool
entry_fits g s p e =
    all
    (leb e.last (last_number s) ∷ leb e.durable e.last ∷ leb e.durable s.durable
    ∷ leb e.written e.durable ∷ leb e.backup e.durable
    ∷ leb e.slot g.slots ∷ (held s p || eqb e.last e.durable) ∷ [])

-- "pages past P are zero"
abbrev pub entry_zero : Entry → Bool
entry_zero e =
    all (eqb e.last 0 ∷ eqb e.durable 0 ∷ eqb e.written 0 ∷ eqb e.slot 0 ∷ eqb e.backup 0 ∷ [])

-- of page i + 1
unfoldable pub page_fits : Geometry → State → ℕ → Bool
page_fits g s i = let e = entry_row s.index i in cond (ltb i g.pages) (entry_fits g s (suc i) e) (entry_zero e)

-- well formed (document 01: sound), for a geometry and a number of frames
unfoldable pub well_formed : Geometry → ℕ → State → Bool
well_formed g frames s =
    all
    (leb (s.durable + s.pending) (most g) ∷ leb s.pending 16 ∷ leb s.notes (most_notes g)
    ∷ pending_note_fits g s.notes s.durable s.note
    ∷ every 16 (frame_fits g frames s) ∷ every 64 (page_fits g s) ∷ [])
