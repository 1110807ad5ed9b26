-- How many images fail in their place. States document 02, §4: "a failing image is passed over" (what the program that
-- carries a volume over reports).
use Rattle.std.specs.Prelude.{ℕ, Bool, cond, not, List}
use Rattle.model.specs.Geometry.{geometry_of, valid_volume, item}
use Rattle.model.specs.Passes.{passes_at, image_count, image_place}
use Rattle.model.specs.Carry.{count_of}
use Rattle.model.specs.declared.{geometry.Geometry.Geometry, state.Entry.Entry, state.State.State}

-- image i does not pass in its place
abbrev pub fails_at : Geometry → List ℕ → List Entry → ℕ → Bool
fails_at g v index i = not (passes_at g index (image_place g i) (item g v (image_place g i)))

unfoldable pub failing_in : Geometry → List ℕ → List Entry → ℕ
failing_in g v index = count_of (image_count g) (fails_at g v index)

-- the images of a volume that fail; none is counted where the volume is not valid
unfoldable pub failing_count : List ℕ → State → ℕ
failing_count v s = cond (valid_volume v) (failing_in (geometry_of v) v s.index) 0
