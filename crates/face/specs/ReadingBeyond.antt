-- What `ReadingForC` says, of two tables more: that of the number of images that fail, for a function that tells it
-- beside a refusal (`Failing`), and that of mending's numbers (`Mending`).
use Rattle.std.specs.Prelude.{ℕ, ◌≡◌, true, List, []}
use Rattle.model.specs.State.{well_formed}
use Rattle.model.specs.Demand1.{Refuses}
use Rattle.model.specs.Precedence.{ordered}
use Rattle.model.specs.declared.{geometry.Geometry.Geometry, state.State.State}
use Rattle.face.specs.Failing.{failing_rows, failing_face}
use Rattle.face.specs.Mending.{mend_face_rows, mend_face}

pub record ReadingBeyond : Type 0 where
  pub failing : (v xs report : List ℕ)
      → Refuses (failing_rows v xs report) (failing_face v xs report).refusal (failing_face v xs report).numbers report
  -- a state that is well formed with some number of frames is so with 16, as `failing_rows` has it
  pub roomiest : (g : Geometry) (frames : ℕ) (s : State) → well_formed g frames s ≡ true → well_formed g 16 s ≡ true
  pub mend : (v m xs : List ℕ) (r p : ℕ) (report : List ℕ)
      → Refuses (mend_face_rows v m xs r p report) (mend_face v m xs r p report).refusal
      (mend_face v m xs r p report).numbers report

pub record OrderedBeyond : Type 0 where
  pub failing : (v xs report : List ℕ) → ordered [] (failing_rows v xs report) ≡ true
  pub mend : (v m xs : List ℕ) (r p : ℕ) (report : List ℕ) → ordered [] (mend_face_rows v m xs r p report) ≡ true
