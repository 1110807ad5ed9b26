-- The room of a volume, as four numbers for C: records left, the page in the way then (0: none), notes left, its page.
use Rattle.std.specs.Prelude.{ℕ, not, List, [], ◌∷◌, eqb, length}
use Rattle.model.specs.Tables.{Row, first_of}
use Rattle.model.specs.Geometry.{valid_volume}
use Rattle.model.specs.Refusals.{log_rows}
use Rattle.reports.specs.Room.{room_of}
use Rattle.reports.specs.declared.reading.Room.{Room}
use Rattle.face.specs.Slots.{Listed, listed}

abbrev pub room_numbers : Room → List ℕ
room_numbers r = r.log.count ∷ r.log.page ∷ r.notes.count ∷ r.notes.page ∷ []

-- refused as a restart; a report of another length than 4 is refused by 2, in 2's place
abbrev pub room_rows : List ℕ → List ℕ → List Row
room_rows v xs = (not (valid_volume v), 1) ∷ (not (eqb (length xs) 4), 2) ∷ log_rows v []

unfoldable pub tell_room : List ℕ → List ℕ → Listed
tell_room v xs = listed (first_of (room_rows v xs)) xs (room_numbers (room_of v))
