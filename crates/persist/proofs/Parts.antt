-- The parts of volume and memory that Write, Backup and Note lend: what the code's reads and stores of them come to.
use mathlib.Core.Path.{◌≡◌, refl, sym, ap, ◌∙◌}
use mathlib.Core.List.{List}
use Prim.Native.Nat.{ℕ, ◌+◌, ◌-◌, ◌≤◌}
use lib.Dec.{lit≤}
use lib.ListN.{length, take, drop}
use borrow.Rule.Slice.PartMut.{put_mid}
use Rattle.laws.proofs.Parts.{put_item, part-lent, part_length}
use Rattle.laws.proofs.Fields.{field-part}
use Rattle.laws.proofs.Items.{seal_image-length}
use Rattle.laws.proofs.Notes.{note-length}
use Rattle.model.specs.Bytes.{field, part, splice}
use Rattle.model.specs.Checksum.{seal_image}
use Rattle.model.specs.Item.{image_lsn, note_bytes}
use Rattle.model.specs.State.{frame_at, frame_bytes}
use Rattle.model.specs.declared.{geometry.Geometry.Geometry, item.Note.Note}

-- the page lsn, read from the memory itself
pub lsn-is : (m : List ℕ) (f at r : ℕ) → at ≡ frame_at f → r ≡ field 4 (at + 4) m → r ≡ image_lsn (frame_bytes m f)
lsn-is m f at r ea er = er ∙ ap (λ (k : ℕ). field 4 (k + 4) m) ea ∙ sym (field-part 4 4 256 (frame_at f) m (lit≤ tt))

-- an image, from the frame's part
pub image-put : (v m : List ℕ) (at from f : ℕ) (g : Geometry) (x : List ℕ) → frame_at f + 256 ≤ length m → from ≡ frame_at f
    → x ≡ seal_image g (take (from + 256 - from) (drop from m))
    → put_mid at (at + 256 - at) v x ≡ splice v at (seal_image g (frame_bytes m f))
image-put v m at from f g x h ef ex =
    put_item v at 256 x (seal_image g (frame_bytes m f)) (seal_image-length g (frame_bytes m f) (part_length m (frame_at f) 256 h))
    (ex ∙ ap (seal_image g) (part-lent m from 256 (from + 256) refl ∙ ap (λ (k : ℕ). part m k 256) ef))

-- a note
pub note-put : (v : List ℕ) (at : ℕ) (n : Note) (x : List ℕ) → x ≡ note_bytes n → put_mid at (at + 16 - at) v x ≡ splice v at (note_bytes n)
note-put v at n x = put_item v at 16 x (note_bytes n) (note-length n)
