-- Rows on points that document 01 leaves open (docs/DECISIONS.md): a log whose slots are all right, empty frames, two
-- entries that name one slot.
use Prim.Native.Nat.{ℕ}
use mathlib.Core.Bool.{true, false}
use mathlib.Core.List.{List, [], ◌∷◌, ◌++◌}
use Rattle.model.specs.Geometry.{empty_volume, geometry_of}
use Rattle.model.specs.Scan.{durable_count}
use Rattle.model.specs.State.{well_formed}
use Rattle.model.specs.Restart.{restart_of}
use Rattle.model.specs.declared.geometry.Heading.{Heading}
use Rattle.model.specs.declared.geometry.Heading.TheVariants.{First, Second}
use Rattle.model.specs.declared.{state.Entry.Entry, state.Frame.Frame}
use Rattle.cases.specs.Rows.{Row, row, Hold}
use Rattle.cases.specs.Opened.{opened}
use Rattle.cases.specs.Words.{bit, numbers, done, yes, no}
use Rattle.cases.specs.Build.{memory}
use Rattle.cases.specs.States.{entry, none, frame, state_with}
use Rattle.cases.specs.Rings.{log_with}
use Rattle.cases.proofs.Cases.{all}
use Rattle.model.specs.Types.{None}

-- what a Restart answers on L 4 with records 1 to 4, and the count that it finds
abbrev pub filled : Heading → List ℕ
filled h =
    let v = log_with h (1 ∷ 2 ∷ 3 ∷ 4 ∷ []) in
    numbers (restart_of v (memory 1)).answer ++ (durable_count (geometry_of v) v ∷ [])

-- whether a state with two durable records, these frames and these entries of pages 1 and 2 is well formed: P 2, B 1
abbrev pub sound : Frame → Frame → Entry → Entry → ℕ
sound f g e k = bit (well_formed (geometry_of (empty_volume Second 2 1 4 4)) 2 (state_with 2 0 0 None f g e k none))

unfoldable pub open_points : List Row
unfolding opened
open_points =
    row "all slots of a log are right: none is asked behind them" (filled First ++ filled Second) (done ++ (4 ∷ done) ++ (4 ∷ []))
    ∷ row "two frames are empty, or hold two pages, or one page"
    (sound (frame 0 false) (frame 0 false) (entry 1 1 0 0 0) (entry 2 2 0 0 0)
    ∷ sound (frame 1 true) (frame 2 true) (entry 1 1 0 0 0) (entry 2 2 0 0 0)
    ∷ sound (frame 1 true) (frame 1 true) (entry 1 1 0 0 0) (entry 2 2 0 0 0) ∷ [])
    (yes ∷ yes ∷ no ∷ [])
    ∷ row "two entries name one slot, and one a slot past B"
    (sound (frame 0 false) (frame 0 false) (entry 1 1 0 1 1) (entry 2 2 0 1 2)
    ∷ sound (frame 0 false) (frame 0 false) (entry 1 1 0 1 1) (entry 2 2 0 2 2) ∷ [])
    (yes ∷ no ∷ [])
    ∷ []

pub open-points : Hold open_points
unfolding open_points
open-points = all open_points tt
