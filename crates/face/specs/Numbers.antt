-- The state as the 360 numbers that a caller keeps (docs/SCRIPT.md): counts, the pending note, 16 frames, 64 pages.
use Rattle.std.specs.Prelude.{ℕ, ◌+◌, ◌*◌, ◌%◌, Bool, true, false, cond, ◌&&◌, List, [], ◌∷◌, ◌++◌, eqb, leb, length, get_or}
use Rattle.model.specs.Tables.{all, every, tabulate}
use Rattle.model.specs.Bytes.{part}
use Rattle.model.specs.declared.{state.Entry.Entry, state.Frame.Frame, state.State.State}
use Rattle.model.specs.Types.{PendingNote, None, Some}

-- ---- a state's numbers

abbrev pub bit_of : Bool → ℕ
bit_of true = 1
bit_of false = 0

-- kind (0: there is none), number, page, slot, lsn
abbrev pub note_numbers : PendingNote → List ℕ
note_numbers None = 0 ∷ 0 ∷ 0 ∷ 0 ∷ 0 ∷ []
note_numbers (Some n) = n.kind ∷ n.number ∷ n.page ∷ n.slot ∷ n.lsn ∷ []

unfoldable pub frame_numbers : List Frame → List ℕ
frame_numbers [] = []
frame_numbers (f ∷ fs) = f.page ∷ bit_of f.dirty ∷ frame_numbers fs

unfoldable pub entry_numbers : List Entry → List ℕ
entry_numbers [] = []
entry_numbers (e ∷ es) = e.last ∷ e.durable ∷ e.written ∷ e.slot ∷ e.backup ∷ entry_numbers es

unfoldable pub numbers_of : State → List ℕ
numbers_of s =
    s.durable ∷ s.pending ∷ s.notes
    ∷ (note_numbers s.note ++ (frame_numbers s.frames ++ entry_numbers s.index))

-- ---- the state of numbers; one that its field does not hold is cut down, and does not fit

abbrev pub note_from : ℕ → ℕ → ℕ → ℕ → ℕ → PendingNote
note_from kind number page slot lsn =
    cond (eqb kind 0) None
    (Some (record { number = number; page = page % 65536; kind = kind % 256; slot = slot % 256; lsn = lsn }))

abbrev pub frame_from : ℕ → ℕ → Frame
frame_from page dirty = record { page = page % 65536; dirty = eqb dirty 1 }

abbrev pub entry_from : ℕ → ℕ → ℕ → ℕ → ℕ → Entry
entry_from last durable written slot backup =
    record { last = last; durable = durable; written = written; slot = slot % 256; backup = backup }

-- row i of the frames' numbers, and of the pages'
abbrev pub frame_row : List ℕ → ℕ → Frame
frame_row xs i = frame_from (get_or xs (2 * i) 0) (get_or xs (2 * i + 1) 0)

abbrev pub entry_row : List ℕ → ℕ → Entry
entry_row xs i =
    entry_from (get_or xs (5 * i) 0) (get_or xs (5 * i + 1) 0) (get_or xs (5 * i + 2) 0) (get_or xs (5 * i + 3) 0)
    (get_or xs (5 * i + 4) 0)

unfoldable pub frames_of : List ℕ → List Frame
frames_of xs = tabulate 16 (frame_row xs)

unfoldable pub entries_of : List ℕ → List Entry
entries_of xs = tabulate 64 (entry_row xs)

unfoldable pub state_of : List ℕ → State
state_of xs =
    record {
      durable = get_or xs 0 0;
      pending = get_or xs 1 0;
      notes = get_or xs 2 0;
      note = note_from (get_or xs 3 0) (get_or xs 4 0) (get_or xs 5 0) (get_or xs 6 0) (get_or xs 7 0);
      frames = frames_of (part xs 8 32);
      index = entries_of (part xs 40 320);
    }

-- ---- numbers that fit: a state's, 360 of them, each within its field

-- kind (0: there is none, and its numbers are 0), number, page, slot, lsn
abbrev pub note_held : ℕ → ℕ → ℕ → ℕ → ℕ → Bool
note_held kind number page slot lsn =
    cond (eqb kind 0) (all (eqb number 0 ∷ eqb page 0 ∷ eqb slot 0 ∷ eqb lsn 0 ∷ []))
    (all (leb kind 2 ∷ leb page 65535 ∷ leb slot 255 ∷ []))

abbrev pub frame_held : List ℕ → ℕ → Bool
frame_held xs i = leb (get_or xs (2 * i) 0) 65535 && leb (get_or xs (2 * i + 1) 0) 1

abbrev pub entry_held : List ℕ → ℕ → Bool
entry_held xs i = leb (get_or xs (5 * i + 3) 0) 255

unfoldable pub fits : List ℕ → Bool
fits xs =
    all
    (eqb (length xs) 360 ∷ note_held (get_or xs 3 0) (get_or xs 4 0) (get_or xs 5 0) (get_or xs 6 0) (get_or xs 7 0)
    ∷ every 16 (frame_held (part xs 8 32)) ∷ every 64 (entry_held (part xs 40 320)) ∷ [])
