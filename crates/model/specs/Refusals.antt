-- The refusals of the calls: document 01's table, with document 02's rows, turned on its side, one list of rows a call,
-- in the order in which they are tested. The answer is the first row that holds.
use Rattle.std.specs.Prelude.{ℕ}
use mathlib.Core.{Bool.Bool, Bool.true, Bool.◌&&◌, Bool.not, List.List, List.[], List.◌∷◌, List.◌++◌}
use lib.{Dec.eqb, Dec.ltb, ListN.length}
use Rattle.model.specs.Tables.{Row, within}
use Rattle.model.specs.Geometry.{tag_of, carry_tag, headed, geometry_of, valid_counts, valid_volume, length_for}
use Rattle.model.specs.{Change.fits, Item.image_lsn, Passes.old_left}
use Rattle.model.specs.Index.{entry_of, slot_used}
use Rattle.model.specs.Scan.{index_of, valid_log, valid_notes}
use Rattle.model.specs.Repair.{scanned_view, state_view, walk_of, is_broken, is_below}
use Rattle.model.specs.State.{frame_count, valid_memory, frame_bytes, frame_of, log_full, notes_full, note_pending}
use Rattle.model.specs.State.{holder, held, blank, well_formed}
use Rattle.model.specs.Types.{Geometry, First, Change, State, Stop}

-- the rows 17 and 18 of a call that scans a volume, before its own
abbrev pub log_rows : List ℕ → List Row → List Row
log_rows v rows = (not (valid_log (geometry_of v) v), 17) ∷ (not (valid_notes (geometry_of v) v), 18) ∷ rows

-- ---- the rows' conditions, one name each

-- page p has a change that is not durable: its last number is above its last durable one
abbrev pub page_pending : State → ℕ → Bool
page_pending s p = ltb (entry_of s.index p).durable (entry_of s.index p).last

-- 10: frame f's page has its last number above its last durable one (document 02, §5). An empty frame is free: page 0
-- has no entry, and `entry_of` would read page 1's
abbrev pub frame_blocked : State → ℕ → Bool
frame_blocked s f = not (eqb (frame_of s f).page 0) && page_pending s (frame_of s f).page

-- page p's frame is dirty
abbrev pub page_dirty : State → ℕ → Bool
page_dirty s p = (frame_of s (holder s p)).dirty

-- 23: the walk for page p goes below the run, by the count found
abbrev pub found_below : Geometry → List ℕ → ℕ → Bool
found_below g v p = is_below (walk_of g p (scanned_view g v p)).stop

-- ---- the tables

-- the rows 1 and 2 of a call on the state, before its own
abbrev pub state_rows : List ℕ → List ℕ → State → List Row → List Row
state_rows v m s rows =
    (not (valid_volume v), 1) ∷ (not (valid_memory (length m)), 2)
    ∷ (not (well_formed (geometry_of v) (frame_count (length m)) s), 2) ∷ rows

unfoldable pub make_rows : List ℕ → ℕ → ℕ → ℕ → ℕ → List Row
make_rows v p b l n = (not (valid_counts p b l n && eqb (length v) (length_for p b l n)), 1) ∷ []

unfoldable pub restart_rows : List ℕ → List ℕ → List Row
restart_rows v m = (not (valid_volume v), 1) ∷ (not (valid_memory (length m)), 2) ∷ log_rows v []

-- The rows of a call's own, behind those, are named `..Tail`: of a geometry, and of what the code finds once and hands
-- on, as the number of frames, or the frame that holds the page (0: none) and the page lsn in it.

-- of a call that appends a record
abbrev pub append_tail : Geometry → List ℕ → State → List Row
append_tail g v s = (eqb s.pending 16, 11) ∷ (log_full g v s, 12) ∷ []

abbrev pub begin_tail : Geometry → List ℕ → ℕ → State → ℕ → ℕ → List Row
begin_tail g v frames s page frame =
    (not (within g.pages page), 3) ∷ (not (within frames frame), 4) ∷ (not (blank s page), 9)
    ∷ (frame_blocked s frame, 10) ∷ append_tail g v s

unfoldable pub begin_rows : List ℕ → List ℕ → State → ℕ → ℕ → List Row
begin_rows v m s page frame = state_rows v m s (begin_tail (geometry_of v) v (frame_count (length m)) s page frame)

-- Load's before the walk, and behind it, of where the walk stopped
abbrev pub load_tail : Geometry → ℕ → State → ℕ → ℕ → List Row
load_tail g frames s page frame =
    (not (within g.pages page), 3) ∷ (not (within frames frame), 4) ∷ (blank s page, 7) ∷ (held s page, 9)
    ∷ (frame_blocked s frame, 10) ∷ []

abbrev pub walk_tail : Stop → List Row
walk_tail stop = (is_broken stop, 19) ∷ (is_below stop, 23) ∷ []

unfoldable pub load_rows : List ℕ → List ℕ → State → ℕ → ℕ → List Row
load_rows v m s page frame =
    let g = geometry_of v in
    let walk = walk_of g page (state_view g v s page) in
    state_rows v m s (load_tail g (frame_count (length m)) s page frame ++ walk_tail walk.stop)

abbrev pub change_tail : Geometry → List ℕ → State → ℕ → Change → List Row
change_tail g v s page c =
    (not (within g.pages page), 3) ∷ (not (fits c), 6) ∷ (not (held s page), 8) ∷ append_tail g v s

unfoldable pub change_rows : List ℕ → List ℕ → State → ℕ → Change → List Row
change_rows v m s page c = state_rows v m s (change_tail (geometry_of v) v s page c)

unfoldable pub force_rows : List ℕ → List ℕ → State → List Row
force_rows v m s = state_rows v m s []

-- of a call that leaves a note pending, where t holds; 15: the page lsn in the frame is above the durable count
abbrev pub note_tail : Geometry → List ℕ → State → Bool → ℕ → List Row → List Row
note_tail g v s t lsn rest =
    (t && note_pending s.note, 13) ∷ (t && notes_full g v s, 14) ∷ (t && ltb s.durable lsn, 15) ∷ rest

-- 13 to 15 are for a dirty page: "On a clean page it answers Nothing"
abbrev pub write_tail : Geometry → List ℕ → State → ℕ → ℕ → ℕ → List Row
write_tail g v s page f lsn =
    (not (within g.pages page), 3) ∷ (not (ltb 0 f), 8) ∷ note_tail g v s (frame_of s f).dirty lsn []

unfoldable pub write_rows : List ℕ → List ℕ → State → ℕ → List Row
write_rows v m s page =
    let f = holder s page in
    state_rows v m s (write_tail (geometry_of v) v s page f (image_lsn (frame_bytes m f)))

abbrev pub backup_tail : Geometry → List ℕ → State → ℕ → ℕ → ℕ → ℕ → List Row
backup_tail g v s page slot f lsn =
    (not (within g.pages page), 3) ∷ (not (within g.slots slot), 5) ∷ (not (ltb 0 f), 8)
    ∷ note_tail g v s true lsn ((slot_used slot s.index, 16) ∷ [])

unfoldable pub backup_rows : List ℕ → List ℕ → State → ℕ → ℕ → List Row
backup_rows v m s page slot =
    let f = holder s page in
    state_rows v m s (backup_tail (geometry_of v) v s page slot f (image_lsn (frame_bytes m f)))

abbrev pub release_tail : Geometry → State → ℕ → ℕ → List Row
release_tail g s page f = (not (within g.pages page), 3) ∷ (not (ltb 0 f), 8) ∷ (frame_blocked s f, 10) ∷ []

unfoldable pub release_rows : List ℕ → List ℕ → State → ℕ → List Row
release_rows v m s page = state_rows v m s (release_tail (geometry_of v) s page (holder s page))

unfoldable pub note_rows : List ℕ → List ℕ → State → List Row
note_rows v m s = state_rows v m s []

-- the three calls that carry a volume over (document 02, §4): "1 if one of these three calls meets a heading not its
-- own"
unfoldable pub start_carry_rows : List ℕ → List ℕ → State → List Row
start_carry_rows v m s = (not (headed (tag_of First) v), 1) ∷ state_rows v m s []

unfoldable pub restamp_rows : List ℕ → List ℕ → State → List Row
restamp_rows v m s = (not (headed carry_tag v), 1) ∷ state_rows v m s []

-- "20, finish called while such an image is left, after 2"
unfoldable pub finish_carry_rows : List ℕ → List ℕ → State → List Row
finish_carry_rows v m s =
    (not (headed carry_tag v), 1) ∷ state_rows v m s ((old_left (geometry_of v) v s.index, 20) ∷ [])

-- "in inspect 17 and 18 come before 7": the rows behind row 1
abbrev pub image_rows : List ℕ → ℕ → ℕ → List Row
image_rows v page size =
    let g = geometry_of v in
    (not (eqb size 256), 2) ∷ (not (within g.pages page), 3)
    ∷ log_rows v ((eqb (entry_of (index_of g v) page).durable 0, 7) ∷ (found_below g v page, 23) ∷ [])

unfoldable pub inspect_rows : List ℕ → ℕ → ℕ → List Row
inspect_rows v page size = (not (valid_volume v), 1) ∷ image_rows v page size
