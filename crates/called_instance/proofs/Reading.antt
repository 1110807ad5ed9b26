-- The functions for C that read a volume, each refused at the first value past its range, where it leaves the numbers
-- that it was lent, and not at the last value within.
use Prim.Native.Nat.{ℕ}
use mathlib.Core.Path.{◌≡◌, refl}
use mathlib.Core.Bool.{true}
use mathlib.Core.List.{List, [], ◌∷◌, map}
use native.Mathlib.Omega.{arith}
use lib.Dec.{eqb→eq}
use lib.ListN.{replicate}
use Rattle.model.specs.Geometry.{record_at}
use Rattle.model.specs.Precedence.{ordered}
use Rattle.face.specs.Slots.{record_numbers, counts_rows, counts_of, slot_rows, listed_at, record_slot_of}
use Rattle.face.specs.Room.{room_rows, tell_room}
use Rattle.face.specs.Advice.{upkeep_rows, upkeep_face}
use Rattle.called.proofs.Reading.{reading-for-c, face-ordered}
use Rattle.cases.proofs.Cases.{equal}
use Rattle.called_instance.proofs.Machines.{face_opened, volume_of, memory_of, numbers_for, waiting}

abbrev v : List ℕ
v = volume_of waiting

abbrev nines : ℕ → List ℕ
nines n = replicate n 9

-- ---- five counts; four numbers are too few

four-counts : (counts_of v (nines 4)).refusal ≡ 2
unfolding face_opened counts_of
four-counts = eqb→eq (counts_of v (nines 4)).refusal 2 tt

pub counts-left : (counts_of v (nines 4)).numbers ≡ nines 4
counts-left = (reading-for-c.counts v (nines 4)).leaves (λ z. omega (arith, z, four-counts))

pub counts-told : (counts_of v (nines 5)).numbers ≡ 0x32 ∷ 1 ∷ 1 ∷ 2 ∷ 2 ∷ []
unfolding face_opened counts_of
counts-told = equal (counts_of v (nines 5)).numbers (0x32 ∷ 1 ∷ 1 ∷ 2 ∷ 2 ∷ []) tt

-- ---- log slots 1 and 2; there is no third

third-slot : (record_slot_of v 3 (nines 8)).refusal ≡ 5
unfolding face_opened listed_at
third-slot = eqb→eq (record_slot_of v 3 (nines 8)).refusal 5 tt

pub slot-left : (record_slot_of v 3 (nines 8)).numbers ≡ nines 8
slot-left = (reading-for-c.slot (record_at 3) record_numbers v (nines 8)).leaves (λ z. omega (arith, z, third-slot))

-- record 2, behind record 1, on page 1: a put of one byte at 0
pub slot-told : (record_slot_of v 2 (nines 8)).numbers ≡ 1 ∷ 2 ∷ 1 ∷ 1 ∷ 2 ∷ 1 ∷ 0 ∷ 0 ∷ []
unfolding face_opened listed_at
slot-told = equal (record_slot_of v 2 (nines 8)).numbers (1 ∷ 2 ∷ 1 ∷ 1 ∷ 2 ∷ 1 ∷ 0 ∷ 0 ∷ []) tt

-- ---- four numbers of the room; five are too many

five-of-room : (tell_room v (nines 5)).refusal ≡ 2
unfolding face_opened tell_room
five-of-room = eqb→eq (tell_room v (nines 5)).refusal 2 tt

pub room-left : (tell_room v (nines 5)).numbers ≡ nines 5
room-left = (reading-for-c.room v (nines 5)).leaves (λ z. omega (arith, z, five-of-room))

-- one more record and one more note; then page 1 is in the way of either
pub room-told : (tell_room v (nines 4)).numbers ≡ 1 ∷ 1 ∷ 1 ∷ 1 ∷ []
unfolding face_opened tell_room
room-told = equal (tell_room v (nines 4)).numbers (1 ∷ 1 ∷ 1 ∷ 1 ∷ []) tt

-- ---- one frame; there is no second

second-frame : (upkeep_face v (memory_of waiting) (numbers_for waiting) 2 (nines 8)).refusal ≡ 4
unfolding face_opened upkeep_face
second-frame = eqb→eq (upkeep_face v (memory_of waiting) (numbers_for waiting) 2 (nines 8)).refusal 4 tt

pub advice-left : (upkeep_face v (memory_of waiting) (numbers_for waiting) 2 (nines 8)).numbers ≡ nines 8
advice-left =
    (reading-for-c.upkeep v (memory_of waiting) (numbers_for waiting) 2 (nines 8)).leaves
    (λ z. omega (arith, z, second-frame))

-- a record is pending: Force
pub advice-told : (upkeep_face v (memory_of waiting) (numbers_for waiting) 1 (nines 8)).numbers
    ≡ 1 ∷ 6 ∷ 0 ∷ 0 ∷ 0 ∷ 0 ∷ 0 ∷ 0 ∷ []
unfolding face_opened upkeep_face
advice-told =
    equal (upkeep_face v (memory_of waiting) (numbers_for waiting) 1 (nines 8)).numbers
    (1 ∷ 6 ∷ 0 ∷ 0 ∷ 0 ∷ 0 ∷ 0 ∷ 0 ∷ []) tt

-- ---- the tables' order

pub in_order : (ordered [] (counts_rows v (nines 4)) ≡ true) × (ordered [] (slot_rows (record_at 3) v (nines 8)) ≡ true)
    × (ordered [] (room_rows v (nines 5)) ≡ true)
    × (ordered [] (upkeep_rows v (memory_of waiting) (numbers_for waiting) 2 (nines 8)) ≡ true)
in_order = (
  face-ordered.counts v (nines 4),
  face-ordered.slot (record_at 3) v (nines 8),
  face-ordered.room v (nines 5),
  face-ordered.upkeep v (memory_of waiting) (numbers_for waiting) 2 (nines 8),
)

-- the numbers that they stand by
pub rows_are : (map (λ r. r.1) (slot_rows (record_at 3) v (nines 8)) ≡ 1 ∷ 2 ∷ 5 ∷ [])
    × (map (λ r. r.1) (room_rows v (nines 5)) ≡ 1 ∷ 2 ∷ 17 ∷ 18 ∷ [])
    × (map (λ r. r.1) (upkeep_rows v (memory_of waiting) (numbers_for waiting) 2 (nines 8)) ≡ 1 ∷ 2 ∷ 2 ∷ 2 ∷ 4 ∷ [])
rows_are = (refl, refl, refl)
