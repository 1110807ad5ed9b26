-- What mending says of a page, as eight numbers for C, at the places of upkeep's: kind (0 both starts, 1 make a call,
-- 2 no room for the call, 3 one start, 4 lost, 5 ahead of the log), then the call as upkeep reports it.
use Rattle.std.specs.Prelude.{ℕ, ◌&&◌, not, List, [], ◌∷◌, eqb, length, get_or}
use Rattle.model.specs.Tables.{Row, first_of, within}
use Rattle.model.specs.Geometry.{geometry_of}
use Rattle.model.specs.State.{frame_count}
use Rattle.model.specs.Refusals.{state_rows}
use Rattle.mend_policy.specs.Mend.{mended_of}
use Rattle.mend_policy.specs.declared.mending.Mend.{Mend}
use Rattle.mend_policy.specs.declared.mending.Mend.TheVariants.{Refused, Whole, Single, Lost, Ahead, Full, Make}
use Rattle.face.specs.Numbers.{state_of, fits}
use Rattle.face.specs.Slots.{Listed, listed}
use Rattle.face.specs.Advice.{plain, command_numbers}

-- 0 or the refusal
abbrev pub refusal_for : Mend → ℕ
refusal_for (Refused n) = n
refusal_for Whole = 0
refusal_for Single = 0
refusal_for Lost = 0
refusal_for Ahead = 0
refusal_for Full = 0
refusal_for (Make c) = 0

abbrev pub mend_numbers : Mend → ℕ → List ℕ
mend_numbers (Refused n) byte = plain 0 0 0 0
mend_numbers Whole byte = plain 0 0 0 0
mend_numbers Single byte = plain 3 0 0 0
mend_numbers Lost byte = plain 4 0 0 0
mend_numbers Ahead byte = plain 5 0 0 0
mend_numbers Full byte = plain 2 0 0 0
mend_numbers (Make c) byte = command_numbers c byte

-- refused as a call on the state, by 3 where p is no page and by 4 where r is no frame; numbers that are no state's, and
-- a report of another length than 8, are refused by 2, in 2's place
abbrev pub mend_face_rows : List ℕ → List ℕ → List ℕ → ℕ → ℕ → List ℕ → List Row
mend_face_rows v m xs r p report =
    state_rows v m (state_of xs)
    ((not (fits xs && eqb (length report) 8), 2) ∷ (not (within (geometry_of v).pages p), 3)
    ∷ (not (within (frame_count (length m)) r), 4) ∷ [])

unfoldable pub mend_face : List ℕ → List ℕ → List ℕ → ℕ → ℕ → List ℕ → Listed
mend_face v m xs r p report =
    let a = mended_of v m (state_of xs) r p in
    listed (first_of (mend_face_rows v m xs r p report)) report (mend_numbers a.mend (get_or a.payload 0 0))
