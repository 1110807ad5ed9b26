-- What upkeep says, as eight numbers for C: kind (0 nothing to do, 1 make a call, 2 stuck), the call's number
-- (docs/SCRIPT.md), page, frame or slot, and of a change kind, length, offset and the first byte of its payload.
use Rattle.std.specs.Prelude.{ℕ, cond, ◌&&◌, not, List, [], ◌∷◌, eqb, length, get_or}
use Rattle.model.specs.Tables.{Row, first_of, within}
use Rattle.model.specs.State.{frame_count}
use Rattle.model.specs.Refusals.{state_rows}
use Rattle.model.specs.Calls.{code_of, number_of}
use Rattle.upkeep_policy.specs.Upkeep.{advise_of}
use Rattle.model.specs.declared.command.Command.{Command}
use Rattle.upkeep_policy.specs.declared.upkeep.Upkeep.{Upkeep}
use Rattle.upkeep_policy.specs.declared.upkeep.Upkeep.TheVariants.{Refused, Idle, Stuck, Make}
use Rattle.face.specs.Numbers.{state_of, fits}
use Rattle.face.specs.Slots.{Listed, listed}

-- a row without a change
abbrev pub plain : ℕ → ℕ → ℕ → ℕ → List ℕ
plain kind call page place = kind ∷ call ∷ page ∷ place ∷ 0 ∷ 0 ∷ 0 ∷ 0 ∷ []

-- a command's own code, read at its places: number, page, then frame or slot; or of a change kind, length and offset
abbrev pub command_numbers : Command → ℕ → List ℕ
command_numbers c byte =
    let xs = code_of c in
    cond (eqb (number_of c) 5)
    (1 ∷ 5 ∷ get_or xs 1 0 ∷ 0 ∷ get_or xs 2 0 ∷ get_or xs 3 0 ∷ get_or xs 4 0 ∷ byte ∷ [])
    (plain 1 (number_of c) (get_or xs 1 0) (get_or xs 2 0))

-- 0 or the refusal
abbrev pub refusal_in : Upkeep → ℕ
refusal_in (Refused n) = n
refusal_in Idle = 0
refusal_in (Stuck page) = 0
refusal_in (Make c) = 0

abbrev pub upkeep_numbers : Upkeep → ℕ → List ℕ
upkeep_numbers (Refused n) byte = plain 0 0 0 0
upkeep_numbers Idle byte = plain 0 0 0 0
upkeep_numbers (Stuck page) byte = plain 2 0 page 0
upkeep_numbers (Make c) byte = command_numbers c byte

-- refused as a call on the state, and by 4 where r is no frame; numbers that are no state's, and a report of another
-- length than 8, are refused by 2, in 2's place
abbrev pub upkeep_rows : List ℕ → List ℕ → List ℕ → ℕ → List ℕ → List Row
upkeep_rows v m xs r report =
    state_rows v m (state_of xs)
    ((not (fits xs && eqb (length report) 8), 2) ∷ (not (within (frame_count (length m)) r), 4) ∷ [])

unfoldable pub upkeep_face : List ℕ → List ℕ → List ℕ → ℕ → List ℕ → Listed
upkeep_face v m xs r report =
    let a = advise_of v m (state_of xs) r in
    listed (first_of (upkeep_rows v m xs r report)) report (upkeep_numbers a.upkeep (get_or a.payload 0 0))
