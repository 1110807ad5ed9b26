-- What it means that a volume holds a list of changes and a list of notes, each in its ring.
use mathlib.Core.Path.{◌≡◌}
use mathlib.Core.Logic.{◌≢◌}
use mathlib.Core.Bool.{true, false}
use mathlib.Core.List.{List}
use Prim.Native.Nat.{ℕ, suc, ◌≤◌}
use lib.ListN.{length}
use Rattle.laws.proofs.Ring.{Run}
use Rattle.model.specs.Checksum.{sealed}
use Rattle.model.specs.Geometry.{page_at, slot_at, record_at, note_at, item, ring, most, most_notes, log_slot, note_slot}
use Rattle.model.specs.Item.{image_lsn, valid_image, note_bytes}
use Rattle.model.specs.AbstractLog.{Logged}
use Rattle.model.specs.declared.{geometry.Geometry.Geometry, item.Note.Note}
use Rattle.history.proofs.Logs.{at}
use Rattle.history.proofs.Marks.{note, mark_at, NotesOk, Later}
use Rattle.history.proofs.Records.{AllFair, rec_of, Faithful}
use Rattle.history.proofs.Sections.{Volume, Tail}

-- ---- the log's ring

-- place i of the log stands in its slot; its slot is not whole; it is not needed, since a backup of its page at or above it is noted
abbrev pub Stands : Geometry → List ℕ → List Logged → ℕ → Type 0
Stands g v l i = item g v (log_slot g (suc i)) ≡ rec_of l i

abbrev pub Torn : Geometry → List ℕ → ℕ → Type 0
Torn g v i = sealed 60 (item g v (log_slot g (suc i))) ≡ false

abbrev pub Spare : List Logged → List Note → ℕ → Type 0
Spare l ns i = suc i ≤ (mark_at (at l i).page ns (length ns)).backup

abbrev pub LogRun : Geometry → List ℕ → List Logged → List Note → Type 0
LogRun g v l ns = Run (ring g) g.records (length l) (Stands g v l) (Torn g v) (Spare l ns)

-- ---- the notes' ring: a note is not needed if a later one has its page and kind

abbrev pub NoteStands : Geometry → List ℕ → List Note → ℕ → Type 0
NoteStands g v ns i = item g v (note_slot g (suc i)) ≡ note_bytes (note ns i)

abbrev pub NoteTorn : Geometry → List ℕ → ℕ → Type 0
NoteTorn g v i = sealed 12 (item g v (note_slot g (suc i))) ≡ false

abbrev pub NoteRun : Geometry → List ℕ → List Note → Type 0
NoteRun g v ns = Run (ring g) g.notes (length ns) (NoteStands g v ns) (NoteTorn g v) (Later ns)

-- the volume is one for the list l of changes
pub record Holds (g : Geometry) (v : List ℕ) (l : List Logged) : Type 0 where
  pub vol : Volume g v
  pub room : length l ≤ most g
  pub fair : AllFair g.pages l
  pub tail : Tail g v record_at 60 (length l) g.records
  pub images : (p : ℕ) → 1 ≤ p → p ≤ g.pages → Faithful g p l (item g v (page_at p))

-- the slot's image is valid as page p's with the number n
abbrev pub Copy : Geometry → List ℕ → ℕ → ℕ → ℕ → Type 0
Copy g v p slot n = (valid_image g p (item g v (slot_at slot)) ≡ true) × (image_lsn (item g v (slot_at slot)) ≡ n)

-- and for the list ns of all notes ever stored; C: no image was damaged, and then every noted backup stands
pub record Noted (C : Type 0) (g : Geometry) (v : List ℕ) (l : List Logged) (ns : List Note) : Type 0 where
  pub few : length ns ≤ most_notes g
  pub run : LogRun g v l ns
  pub notes : NoteRun g v ns
  pub tail : Tail g v note_at 12 (length ns) g.notes
  pub fit : NotesOk g.pages g.slots l ns
  pub backups : (p : ℕ) → 1 ≤ p → p ≤ g.pages → (mark_at p ns (length ns)).slot ≢ 0
      → Faithful g p l (item g v (slot_at (mark_at p ns (length ns)).slot))
  pub copies : C → (p : ℕ) → 1 ≤ p → p ≤ g.pages → (mark_at p ns (length ns)).slot ≢ 0
      → Copy g v p (mark_at p ns (length ns)).slot (mark_at p ns (length ns)).backup
