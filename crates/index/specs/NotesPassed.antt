-- One pass over the notes: the record that a note names, what a note leaves in the columns, and the notes passed.
use Rattle.std.specs.Prelude.{ℕ, ◌+◌, ◌-◌, ◌≤◌, ◌<◌, ◌≡◌, true, false, ◌&&◌, ◌||◌, List, eqb, leb, ltb, get_or, set}
use Rattle.model.specs.Tables.{every, within}
use Rattle.model.specs.Checksum.{sealed}
use Rattle.model.specs.Geometry.{note_slot, item}
use Rattle.model.specs.Item.{note_layout}
use Rattle.model.specs.Index.{with_note}
use Rattle.model.specs.Scan.{log_record, durable_count, first_held, note_index, note_fits}
use Rattle.model.specs.declared.geometry.Geometry.{Geometry}
use Rattle.model.specs.declared.item.Note.{Note}
use Rattle.index_rows.specs.declared.columns.Columns.{Columns}
use Rattle.index_rows.specs.Columns.{Noted, earlier_row, entered, slot_in}
use Rattle.index.specs.NoteSection.{note_after}

-- the note names a durable record, of its page where that is in the log's run
pub record Names (g : Geometry) (v : List ℕ) (e : Note) : Type 0 where
  pub durable : within (durable_count g v) e.lsn ≡ true
  pub own : (ltb e.lsn (first_held g v (durable_count g v)) || eqb (log_record g v e.lsn).page e.page) ≡ true

-- and it has number n and one of the volume's pages
pub record Belongs (g : Geometry) (v : List ℕ) (e : Note) (n : ℕ) : Type 0 where
  pub number_is : e.number ≡ n
  pub inside : within g.pages e.page ≡ true
  pub names : Names g v e

-- a note of a volume with so many slots may follow those that gave the columns
pub record Follows (e : Note) (most : ℕ) (c : Columns) : Type 0 where
  pub laid : note_layout e ≡ true
  pub after : note_after (earlier_row c (e.page - 1)) e most (leb 1 e.slot && slot_in e.slot c.slots) ≡ true

-- the columns with the note entered
abbrev pub with_entered : Columns → Note → Columns
with_entered c e = entered c (e.page - 1) (with_note (earlier_row c (e.page - 1)) e)

-- a backup's slot and number may be entered in row j, and are
pub record BackedUp (most j slot lsn : ℕ) (c d : Columns) : Type 0 where
  pub order : leb (get_or c.backup j 0) lsn ≡ true
  pub inside : within most slot ≡ true
  pub free : (leb 1 slot && slot_in slot c.slots) ≡ false
  pub columns : d ≡ record { last = c.last; written = c.written; slots = set c.slots j slot; backup = set c.backup j lsn }

-- the notes from f to the one before `next` fit and gave the columns; the slot of `next` is not whole, or all slots
-- were passed
pub record NotesPassed (g : Geometry) (v : List ℕ) (f next : ℕ) (c : Columns) : Type 0 where
  pub order : f ≤ next
  pub few : next ≤ f + g.notes
  pub held : every (next - f) (λ j. note_fits g v (note_index g v f j) (f + j)) ≡ true
  pub noted : Noted (note_index g v f (next - f)) c
  pub torn : next < f + g.notes → sealed 12 (item g v (note_slot g next)) ≡ false
