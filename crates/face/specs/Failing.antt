-- How many images of a volume fail in their place, as one number for C. States document 02, §4: "a failing image is
-- passed over" (what the program that carries a volume over reports).
use Rattle.std.specs.Prelude.{ℕ, ◌&&◌, not, List, [], ◌∷◌, eqb, length}
use Rattle.model.specs.Tables.{Row, first_of}
use Rattle.model.specs.Geometry.{geometry_of, valid_volume}
use Rattle.model.specs.Passes.{image_count, image_place}
use Rattle.model.specs.State.{well_formed}
use Rattle.model.specs.Carry.{count_of, passes_on}
use Rattle.model.specs.declared.state.State.{State}
use Rattle.face.specs.Numbers.{state_of, fits}
use Rattle.face.specs.Slots.{Listed, listed}

-- the images of pages and of backups that do not pass in their place
abbrev pub failing_of : List ℕ → State → ℕ
failing_of v s = count_of (image_count (geometry_of v)) (λ i. not (passes_on v s (image_place (geometry_of v) i)))

-- numbers that are no state's, and a report of another length than 1, are refused by 2. No memory is lent: the state is
-- judged with 16 frames, the most that a memory has, so that one is taken exactly if it is well formed with some memory
abbrev pub failing_rows : List ℕ → List ℕ → List ℕ → List Row
failing_rows v xs report =
    (not (valid_volume v), 1) ∷ (not (fits xs && eqb (length report) 1), 2)
    ∷ (not (well_formed (geometry_of v) 16 (state_of xs)), 2) ∷ []

unfoldable pub failing_face : List ℕ → List ℕ → List ℕ → Listed
failing_face v xs report = listed (first_of (failing_rows v xs report)) report (failing_of v (state_of xs) ∷ [])
