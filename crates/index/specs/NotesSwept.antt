-- What one pass over the notes finds: numbers to the one before `next`, and no others.
use Rattle.std.specs.Prelude.{ℕ, suc, ◌≡◌, true, List}
use Rattle.model.specs.Scan.{note_count}
use Rattle.model.specs.declared.geometry.Geometry.{Geometry}
use Rattle.index_rows.specs.declared.columns.Columns.{Columns}
use Rattle.index_rows.specs.Columns.{Noted}
use Rattle.index.specs.NoteSection.{noted_index, notes_fit}

pub record NotesSwept (g : Geometry) (v : List ℕ) (next : ℕ) (c : Columns) : Type 0 where
  pub fit : notes_fit g v ≡ true
  pub count : next ≡ suc (note_count g v)
  pub noted : Noted (noted_index g v) c
