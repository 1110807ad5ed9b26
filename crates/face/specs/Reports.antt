-- What a call for C tells, said over what the call leaves (`model`: Outcome), on any bytes and any numbers that fit: its
-- answer, and in its report class, start and count of a repair, and where in the volume the stored bytes lie.
use Rattle.std.specs.Prelude.{ℕ, ◌≡◌, true, List, [], ◌∷◌, length, take}
use Rattle.model.specs.Bytes.{splice}
use Rattle.model.specs.Geometry.{Place, start, width, magic_of, geometry_of}
use Rattle.model.specs.Outcome.{one_item, new_heading}
use Rattle.model.specs.Calls.{Call, outcome_of}
use Rattle.reports.specs.Examine.{report_of}
use Rattle.model.specs.declared.answer.Repair.{Repair}
use Rattle.model.specs.declared.answer.Answer.TheVariants.{Refused, Nothing, Done, Repaired}
use Rattle.face.specs.Numbers.{state_of, fits}
use Rattle.face.specs.Face.{face_of}

pub record Tells (c : Call) (v m xs report : List ℕ) : Type 0 where
  -- an item was stored: the report has the item's place and width, and the volume is the one lent with the item's bytes
  -- there
  pub item : (at : Place) (ys : List ℕ) → (outcome_of c v m (state_of xs)).answer ≡ Done
      → (outcome_of c v m (state_of xs)).stored ≡ one_item at ys
      → ((face_of c v m xs report).report ≡ 0 ∷ 0 ∷ 0 ∷ start (geometry_of v) at ∷ width at ∷ [])
      × ((face_of c v m xs report).volume ≡ splice v (start (geometry_of v) at) ys) × (length ys ≡ width at)
  -- the heading was stored: four bytes at 0
  pub heading : (tag : ℕ) → (outcome_of c v m (state_of xs)).answer ≡ Done
      → (outcome_of c v m (state_of xs)).stored ≡ new_heading tag
      → ((face_of c v m xs report).report ≡ 0 ∷ 0 ∷ 0 ∷ 0 ∷ 4 ∷ [])
      × ((face_of c v m xs report).volume ≡ splice v 0 (magic_of tag))
  -- a repair: its class, start and count, as an inspection's report has them
  pub repair : (r : Repair) → (outcome_of c v m (state_of xs)).answer ≡ Repaired r
      → ((face_of c v m xs report).answer ≡ 0) × (take 3 (face_of c v m xs report).report ≡ report_of r)
  -- the number of the answer; a refusal leaves the report
  pub done : (outcome_of c v m (state_of xs)).answer ≡ Done → (face_of c v m xs report).answer ≡ 0
  pub idle : (outcome_of c v m (state_of xs)).answer ≡ Nothing → (face_of c v m xs report).answer ≡ 256
  pub refused : (n : ℕ) → (outcome_of c v m (state_of xs)).answer ≡ Refused n
      → ((face_of c v m xs report).answer ≡ n) × ((face_of c v m xs report).report ≡ report)

abbrev pub ReportsTell : Type 0
ReportsTell = (c : Call) (v m xs report : List ℕ) → fits xs ≡ true → length report ≡ 5 → Tells c v m xs report
