-- What a volume's heading says, and what stands in a slot of its log, its notes or its backups, as numbers for C.
use Rattle.std.specs.Prelude.{ℕ, cond, not, List, [], ◌∷◌, eqb, length}
use Rattle.model.specs.Tables.{Row, first_of}
use Rattle.model.specs.Bytes.{all_zero}
use Rattle.model.specs.Checksum.{sealed}
use Rattle.model.specs.Geometry.{Place, slot_at, record_at, note_at, item_of, item, geometry_of, valid_volume}
use Rattle.model.specs.Item.{image_page, image_lsn, valid_somewhere, record_of, note_of}
use Rattle.model.specs.declared.geometry.Geometry.{Geometry}

-- 0 or the refusal, and the numbers that are left: a refusal leaves them as they were
pub record Listed : Type 0 where
  pub refusal : ℕ
  pub numbers : List ℕ

abbrev pub listed : ℕ → List ℕ → List ℕ → Listed
listed n old new = record { refusal = n; numbers = cond (eqb n 0) new old }

-- ---- the heading's tag and counts

abbrev pub counts_rows : List ℕ → List ℕ → List Row
counts_rows v xs = (not (valid_volume v), 1) ∷ (not (eqb (length xs) 5), 2) ∷ []

abbrev pub count_numbers : Geometry → List ℕ
count_numbers g = g.tag ∷ g.pages ∷ g.slots ∷ g.records ∷ g.notes ∷ []

unfoldable pub counts_of : List ℕ → List ℕ → Listed
counts_of v xs = listed (first_of (counts_rows v xs)) xs (count_numbers (geometry_of v))

-- ---- a slot

-- a slot of n bytes and a checksum: 0 zeros, 1 whole, 2 fails its check
abbrev pub standing : ℕ → List ℕ → ℕ
standing n x = cond (all_zero x) 0 (cond (sealed n x) 1 2)

-- lsn, previous lsn, page, kind, length, offset, fill behind it
abbrev pub record_numbers : List ℕ → List ℕ
record_numbers x =
    let e = record_of x in
    standing 60 x ∷ e.lsn ∷ e.prev ∷ e.page ∷ e.kind ∷ e.length ∷ e.offset ∷ e.fill ∷ []

-- number, page, kind, slot, lsn and two zeros behind it
abbrev pub stored_note_numbers : List ℕ → List ℕ
stored_note_numbers x =
    let e = note_of x in
    standing 12 x ∷ e.number ∷ e.page ∷ e.kind ∷ e.slot ∷ e.lsn ∷ 0 ∷ 0 ∷ []

abbrev pub slot_rows : Place → List ℕ → List ℕ → List Row
slot_rows at v xs =
    (not (valid_volume v), 1) ∷ (not (eqb (length xs) 8), 2) ∷ (not (item_of (geometry_of v) at), 5) ∷ []

-- what stands at a place, by the numbers that tell it
unfoldable pub listed_at : Place → (List ℕ → List ℕ) → List ℕ → List ℕ → Listed
listed_at at tell v xs = listed (first_of (slot_rows at v xs)) xs (tell (item (geometry_of v) v at))

-- a slot of the log, 1 to L, and of the notes, 1 to N
abbrev pub record_slot_of : List ℕ → ℕ → List ℕ → Listed
record_slot_of v slot xs = listed_at (record_at slot) record_numbers v xs

abbrev pub note_slot_of : List ℕ → ℕ → List ℕ → Listed
note_slot_of v slot xs = listed_at (note_at slot) stored_note_numbers v xs

-- ---- a backup slot

-- what stands there, 0 zeros, 1 valid as some page 1 to P, 2 neither; the page, the lsn and five zeros behind it
abbrev pub backup_numbers : Geometry → List ℕ → List ℕ
backup_numbers g x =
    cond (all_zero x) 0 (cond (valid_somewhere g x) 1 2) ∷ image_page x ∷ image_lsn x ∷ 0 ∷ 0 ∷ 0 ∷ 0 ∷ 0 ∷ []

-- a backup slot, 1 to B
abbrev pub backup_slot_of : List ℕ → ℕ → List ℕ → Listed
backup_slot_of v slot xs = listed_at (slot_at slot) (backup_numbers (geometry_of v)) v xs
