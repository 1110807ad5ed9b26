-- What stands in a slot, as numbers: the code's tests and the fields that it reads.
use mathlib.Core.Path.{◌≡◌, ap}
use mathlib.Core.Bool.{Bool, cond, ◌&&◌}
use mathlib.Core.List.{List, [], ◌∷◌}
use Prim.Native.Nat.{ℕ}
use Rattle.model.specs.Tables.{within}
use Rattle.model.specs.Bytes.{all_zero}
use Rattle.model.specs.Item.{image_page, image_lsn, valid_image, valid_somewhere, record_of, note_of}
use Rattle.model.specs.declared.{geometry.Geometry.Geometry, item.LogRecord.LogRecord, item.Note.Note}
use Rattle.face.specs.Slots.{standing, record_numbers, stored_note_numbers, backup_numbers}

pub record-told : (x : List ℕ) (e : LogRecord) (s : ℕ) → e ≡ record_of x → s ≡ standing 60 x
    → s ∷ e.lsn ∷ e.prev ∷ e.page ∷ e.kind ∷ e.length ∷ e.offset ∷ e.fill ∷ [] ≡ record_numbers x
record-told x e s ee es =
    rw es
    (ap (λ (k : LogRecord). standing 60 x ∷ k.lsn ∷ k.prev ∷ k.page ∷ k.kind ∷ k.length ∷ k.offset ∷ k.fill ∷ []) ee)

pub note-told : (x : List ℕ) (e : Note) (s : ℕ) → e ≡ note_of x → s ≡ standing 12 x
    → s ∷ e.number ∷ e.page ∷ e.kind ∷ e.slot ∷ e.lsn ∷ 0 ∷ 0 ∷ [] ≡ stored_note_numbers x
note-told x e s ee es =
    rw es (ap (λ (k : Note). standing 12 x ∷ k.number ∷ k.page ∷ k.kind ∷ k.slot ∷ k.lsn ∷ 0 ∷ 0 ∷ []) ee)

pub backup-told : (g : Geometry) (x : List ℕ) (page lsn y z : ℕ) (valid zero : Bool) → page ≡ image_page x
    → valid ≡ valid_image g page x → zero ≡ all_zero x → y ≡ cond (within g.pages page && valid) 1 2 → z ≡ cond zero 0 y
    → lsn ≡ image_lsn x → z ∷ page ∷ lsn ∷ 0 ∷ 0 ∷ 0 ∷ 0 ∷ 0 ∷ [] ≡ backup_numbers g x
unfolding valid_somewhere
backup-told g x page lsn y z valid zero ep ev ez ey es el = rw (es, ez, ey, ev, ep, el)
