-- Begin and Change for C: arguments that are numbers, judged before they are cut down.
use Rattle.std.specs.Prelude.{ℕ, Bool, true, cond, ◌&&◌, not, List, [], ◌∷◌, eqb, leb, length, get_or}
use Rattle.model.specs.Tables.{all, first_of, within, tabulate}
use Rattle.model.specs.Geometry.{geometry_of, valid_volume}
use Rattle.model.specs.State.{frame_count}
use Rattle.model.specs.Refusals.{state_rows}
use Rattle.model.specs.Calls.{no_payload}
use Rattle.model.specs.declared.{command.Command.TheVariants.Begin, change.Change.Change}
use Rattle.model.specs.declared.change.Change.TheVariants.{Put, Slide}
use Rattle.model.specs.declared.change.Change.TheVariants.{Format}
use Rattle.face.specs.Numbers.{state_of, fits}
use Rattle.face.specs.Face.{Face, faced, face_of}

-- the number of a Begin whose fill is above 255: 6, between 4 and 9
unfoldable pub misfilled_of : ℕ → ℕ → List ℕ → List ℕ → List ℕ → List ℕ → ℕ
misfilled_of page frame v m xs report =
    cond (fits xs && eqb (length report) 5)
    (first_of (state_rows v m (state_of xs)
    ((not (within (geometry_of v).pages page), 3) ∷ (not (within (frame_count (length m)) frame), 4) ∷ (true, 6) ∷ [])))
    (cond (not (valid_volume v)) 1 2)

unfoldable pub begin_face : ℕ → ℕ → ℕ → List ℕ → List ℕ → List ℕ → List ℕ → Face
begin_face page frame fill v m xs report =
    cond (leb fill 255) (face_of (Begin page frame fill, no_payload) v m xs report)
    (faced (misfilled_of page frame v m xs report) xs report m v)

-- a change that every Change refuses by 6
abbrev pub unfit_change : Change
unfit_change = Put 65535 255

-- a format's numbers, and those of a put or a slide with n bytes beside it, are what a record holds
abbrev pub format_held : ℕ → ℕ → ℕ → ℕ → Bool
format_held offset size fill n = all (eqb size 0 ∷ eqb offset 0 ∷ leb fill 255 ∷ leb n 44 ∷ [])

abbrev pub bytes_held : ℕ → ℕ → ℕ → ℕ → Bool
bytes_held offset size fill n = all (leb size n ∷ leb offset 65535 ∷ eqb fill 0 ∷ leb n 44 ∷ [])

-- the change that kind, offset, length and fill ask for, with n bytes beside them
unfoldable pub change_from : ℕ → ℕ → ℕ → ℕ → ℕ → Change
change_from kind offset size fill n =
    cond (eqb kind 1) (cond (format_held offset size fill n) (Format fill) unfit_change)
    (cond (eqb kind 2) (cond (bytes_held offset size fill n) (Put offset size) unfit_change)
    (cond (eqb kind 3) (cond (bytes_held offset size fill n) (Slide offset size) unfit_change) unfit_change))

-- 44 bytes: those that are there, then zeros
unfoldable pub payload_from : List ℕ → List ℕ
payload_from xs = tabulate 44 (λ i. get_or xs i 0)
