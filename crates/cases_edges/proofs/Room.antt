-- The room of a volume at its bounds: a ring of four records of page 1, its backup at 3 noted in the first of two note
-- slots. Three more records are taken and the fourth is not; one more note is, and the second is not.
use Prim.Native.Nat.{ℕ}
use mathlib.Core.Path.{◌≡◌}
use mathlib.Core.Bool.{true, false}
use mathlib.Core.List.{List, [], ◌∷◌}
use native.Mathlib.Omega.{arith}
use lib.Dec.{eqb→eq}
use Rattle.model.specs.Tables.{first_of}
use Rattle.model.specs.Geometry.{note_at, geometry_of}
use Rattle.model.specs.Outcome.{one_item}
use Rattle.model.specs.Restart.{restart_state}
use Rattle.reports.specs.Reading.{scan_rows, Restarts}
use Rattle.reports.specs.Room.{room_of, log_full_after, notes_full_after}
use Rattle.reports_laws.proofs.Room.{room}
use Rattle.model.specs.declared.geometry.Heading.TheVariants.{Second}
use Rattle.cases.specs.Opened.{opened}
use Rattle.cases.specs.Build.{backup_note, stored_in}
use Rattle.cases.specs.Rings.{log_with}

abbrev v : List ℕ
v = stored_in (log_with Second (1 ∷ 2 ∷ 3 ∷ 4 ∷ [])) (one_item (note_at 1) (backup_note 1 1 1 3) ∷ [])

restarts : Restarts v
unfolding opened
restarts = eqb→eq (first_of (scan_rows v)) 0 tt

counts : ((geometry_of v).records ≡ 4) × ((geometry_of v).notes ≡ 2)
unfolding opened
counts = (eqb→eq (geometry_of v).records 4 tt, eqb→eq (geometry_of v).notes 2 tt)

left : ((room_of v).log.count ≡ 3) × ((room_of v).notes.count ≡ 1)
unfolding opened
left = (eqb→eq (room_of v).log.count 3 tt, eqb→eq (room_of v).notes.count 1 tt)

-- the third is taken, and the log is then full, one short of a turn
pub third-taken : log_full_after (geometry_of v) v (restart_state v) 2 ≡ false
third-taken = room.records v 2 restarts (omega (arith, left.0))

pub then-full : log_full_after (geometry_of v) v (restart_state v) 3 ≡ true
then-full =
    let f = room.full v restarts (omega (arith, left.0, counts.0)) in
    rw left.0 at f

-- the first is taken, and the notes are then full, one short of a turn
pub note-taken : notes_full_after (geometry_of v) v (restart_state v) 0 ≡ false
note-taken = room.notes v 0 restarts (omega (arith, left.1))

pub then-filled : notes_full_after (geometry_of v) v (restart_state v) 1 ≡ true
then-filled =
    let f = room.filled v restarts (omega (arith, left.1, counts.1)) in
    rw left.1 at f
