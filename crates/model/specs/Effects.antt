-- What the calls on the state do to state, memory and volume where they are not refused. States document 01, "The
-- calls". And of document 02, §5 and §4: Release; Start, Restamp and Finish, which carry a volume over to the second
-- heading.
use Rattle.std.specs.Prelude.{ℕ, ◌+◌, ◌-◌}
use mathlib.Core.{Bool.Bool, Bool.true, Bool.false, Bool.cond, Bool.not, List.List, List.[], List.◌++◌}
use lib.{Dec.eqb, Dec.ltb, ListN.take, ListN.drop, ListN.set, ListN.replicate}
use Rattle.model.specs.{Tables.within, Checksum.seal_image, Change.apply_change, Refusals.page_dirty}
use Rattle.model.specs.Bytes.{bytes_of, field, splice}
use Rattle.model.specs.Geometry.{page_at, slot_at, log_slot, note_slot, geometry_of, item}
use Rattle.model.specs.Item.{image_lsn, image_body, frame_image, encode_change, note_bytes}
use Rattle.model.specs.Index.{entry_of, set_entry, with_last, with_durable, enter_note}
use Rattle.model.specs.Passes.{image_count, image_place, first_old}
use Rattle.model.specs.Repair.{state_view, repair_of, rebuilt, class_in}
use Rattle.model.specs.State.{pending_at, pending_bytes, frame_at, frame_bytes, last_number, holder}
use Rattle.model.specs.Outcome.{Outcome, nothing, one_item, leaves, unchanged, storing}
use Rattle.model.specs.Types.{Change, Note, Frame, PendingNote, None, Some, State, Class, Good, Behind}
use Rattle.model.specs.Types.{Stale, Failed, Ahead, Nothing, Done, Repaired}
use Rattle.model.specs.declared.change.Change.TheVariants.{Format}

-- ---- parts of the next state

abbrev pub with_frame : State → ℕ → ℕ → Bool → List Frame
with_frame s f page dirty = set s.frames (f - 1) (record { page = page; dirty = dirty })

abbrev pub with_frames : State → List Frame → PendingNote → State
with_frames s frames n =
    record {
      durable = s.durable;
      pending = s.pending;
      notes = s.notes;
      note = n;
      frames = frames;
      index = s.index;
    }

-- the state with one more pending record, of page p in frame f
unfoldable pub appended_state : State → ℕ → ℕ → State
appended_state s p f =
    record {
      durable = s.durable;
      pending = s.pending + 1;
      notes = s.notes;
      note = s.note;
      frames = with_frame s f p true;
      index = set_entry s.index p (with_last (entry_of s.index p) (last_number s + 1));
    }

-- the memory with the change's record pending, and frame f's bytes replaced
unfoldable pub appended_memory : List ℕ → State → ℕ → Change → List ℕ → ℕ → List ℕ → List ℕ
appended_memory m s p c payload f image =
    let n = last_number s + 1 in
    splice (splice m (pending_at n) (encode_change n (entry_of s.index p).last p c payload)) (frame_at f) image

-- ---- what the calls do, where they are not refused

-- Begin: "first format of a blank page, added as a pending record, its frame dirty"; a page in the frame makes way,
-- dirty or not, but not one whose last number is above its last durable one: that is 10 (document 02, §5, in place of
-- "a clean page in the frame makes way")
unfoldable pub begin_done : List ℕ → State → ℕ → ℕ → ℕ → Outcome
begin_done m s page frame fill =
    let image = frame_image page (last_number s + 1) (replicate 244 fill) in
    leaves Done (appended_state s page frame) (appended_memory m s page (Format fill) [] frame image) nothing

abbrev pub is_good : Class → Bool
is_good Good = true
is_good Behind = false
is_good Stale = false
is_good Failed = false
is_good Ahead = false

-- Load: "brings a page in, repaired. Dirty unless its class is Good"; a page in the frame makes way as for Begin
unfoldable pub load_done : List ℕ → List ℕ → State → ℕ → ℕ → Outcome
load_done v m s page frame =
    let g = geometry_of v in
    let w = state_view g v s page in
    leaves (Repaired (repair_of g page w))
    (with_frames s (with_frame s frame page (not (is_good (class_in g page w)))) s.note)
    (splice m (frame_at frame) (rebuilt g page w)) nothing

-- frame bytes with a new page lsn and body; the page number, the zeros and the checksum's bytes stay
abbrev pub changed_image : List ℕ → ℕ → List ℕ → List ℕ
changed_image x lsn body = take 4 x ++ (bytes_of 4 lsn ++ (body ++ drop 252 x))

-- Change: "alters a page in a frame and adds a pending record. The frame is dirty"
unfoldable pub change_done : List ℕ → State → ℕ → Change → List ℕ → Outcome
change_done m s page c payload =
    let f = holder s page in
    let x = frame_bytes m f in
    let image = changed_image x (last_number s + 1) (apply_change c payload (image_body x)) in
    leaves Done (appended_state s page f) (appended_memory m s page c payload f image) nothing

-- the state once the oldest pending record, of page p, is stored: "its number, durable + 1, becomes its page's newest
-- durable (no entry changes if that page isn't 1 to P)"
unfoldable pub forced_state : State → ℕ → ℕ → State
forced_state s pages p =
    record {
      durable = s.durable + 1;
      pending = s.pending - 1;
      notes = s.notes;
      note = s.note;
      frames = s.frames;
      index =
          cond (within pages p) (set_entry s.index p (with_durable (entry_of s.index p) (s.durable + 1)))
          s.index;
    }

-- Force: "stores the oldest pending record", as its 64 bytes lie in memory
unfoldable pub force_done : List ℕ → List ℕ → State → Outcome
force_done v m s =
    let g = geometry_of v in
    let r = pending_bytes m (s.durable + 1) in
    cond (eqb s.pending 0) (unchanged Nothing m s)
    (leaves Done (forced_state s g.pages (field 2 8 r)) m (one_item (log_slot g (s.durable + 1)) r))

-- the note that Write and Backup leave to be stored
abbrev pub next_note : State → ℕ → ℕ → ℕ → ℕ → PendingNote
next_note s page kind slot lsn =
    Some (record { number = s.notes + 1; page = page; kind = kind; slot = slot; lsn = lsn })

-- Write: "stores a dirty page's image, makes it clean, owes a written note. On a clean page it answers Nothing"
unfoldable pub write_outcome : List ℕ → List ℕ → State → ℕ → Outcome
write_outcome v m s page =
    let g = geometry_of v in
    let f = holder s page in
    let x = frame_bytes m f in
    cond (page_dirty s page)
    (leaves Done (with_frames s (with_frame s f page false) (next_note s page 1 0 (image_lsn x))) m
    (one_item (page_at page) (seal_image g x)))
    (unchanged Nothing m s)

-- Backup: "stores the frame's image in the slot, owes a backup note"
unfoldable pub backup_done : List ℕ → List ℕ → State → ℕ → ℕ → Outcome
backup_done v m s page slot =
    let g = geometry_of v in
    let x = frame_bytes m (holder s page) in
    leaves Done (with_frames s s.frames (next_note s page 2 slot (image_lsn x))) m
    (one_item (slot_at slot) (seal_image g x))

-- Release (document 02, §5: letting go of a page): "the frame is then empty, its bytes as they were"; nothing is
-- stored, so that the image on disk stays old, and a later Load repairs it. A clean page may be let go too
unfoldable pub release_done : List ℕ → State → ℕ → Outcome
release_done m s page = leaves Done (with_frames s (with_frame s (holder s page) 0 false) s.note) m nothing

-- the state once the pending note is stored: "only then does the index change"
unfoldable pub noted_state : State → Note → State
noted_state s n =
    record {
      durable = s.durable;
      pending = s.pending;
      notes = s.notes + 1;
      note = None;
      frames = s.frames;
      index = enter_note s.index n;
    }

-- Note: "stores the owed note"
abbrev pub note_stored : List ℕ → List ℕ → State → PendingNote → Outcome
note_stored v m s None = unchanged Nothing m s
note_stored v m s (Some n) =
    leaves Done (noted_state s n) m (one_item (note_slot (geometry_of v) (s.notes + 1)) (note_bytes n))

-- ---- carrying a volume over (document 02, §4): Start, Restamp and Finish leave memory and state as given

-- Restamp: "One call restamps the first image, pages before slots, that passes only the old sum": its bytes 0 to 251 as
-- they lie, the byte sum set (new images have it under this heading). "When none is left it answers Nothing"
unfoldable pub restamp_done : List ℕ → List ℕ → State → Outcome
restamp_done v m s =
    let g = geometry_of v in
    let i = first_old g v s.index in
    let at = image_place g i in
    cond (ltb i (image_count g)) (storing (one_item at (seal_image g (item g v at))) m s) (unchanged Nothing m s)
