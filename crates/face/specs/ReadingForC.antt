-- The functions for C that read a volume and tell numbers: each is refused by its table and only so, and a refusal
-- leaves the numbers that it was lent. States document 01, "Refusal by place": "Each is given under its condition and
-- only then." Those of the reports are in `ReadingClaim` (`reports`). The number of images that fail has no refusal: it
-- is 0 of a volume that is not valid, or of another length than 360 numbers (`failing_count`, crate `convert`).
use Rattle.std.specs.Prelude.{ℕ, ◌≡◌, true, List, []}
use Rattle.model.specs.Geometry.{Place}
use Rattle.model.specs.Demand1.{Refuses}
use Rattle.model.specs.Precedence.{ordered}
use Rattle.face.specs.Slots.{counts_rows, counts_of, slot_rows, listed_at}
use Rattle.face.specs.Room.{room_rows, tell_room}
use Rattle.face.specs.Advice.{upkeep_rows, upkeep_face}

pub record ReadingForC : Type 0 where
  pub counts : (v xs : List ℕ) → Refuses (counts_rows v xs) (counts_of v xs).refusal (counts_of v xs).numbers xs
  -- at any place, however it is told: so of a record, a note and a backup slot
  pub slot : (at : Place) (tell : List ℕ → List ℕ) (v xs : List ℕ)
      → Refuses (slot_rows at v xs) (listed_at at tell v xs).refusal (listed_at at tell v xs).numbers xs
  pub room : (v xs : List ℕ) → Refuses (room_rows v xs) (tell_room v xs).refusal (tell_room v xs).numbers xs
  pub upkeep : (v m xs : List ℕ) (r : ℕ) (report : List ℕ)
      → Refuses (upkeep_rows v m xs r report) (upkeep_face v m xs r report).refusal (upkeep_face v m xs r report).numbers
      report

-- "The lowest number wins": every one of these tables stands in that order (`Precedence`)
pub record FaceOrdered : Type 0 where
  pub counts : (v xs : List ℕ) → ordered [] (counts_rows v xs) ≡ true
  pub slot : (at : Place) (v xs : List ℕ) → ordered [] (slot_rows at v xs) ≡ true
  pub room : (v xs : List ℕ) → ordered [] (room_rows v xs) ≡ true
  pub upkeep : (v m xs : List ℕ) (r : ℕ) (report : List ℕ) → ordered [] (upkeep_rows v m xs r report) ≡ true
