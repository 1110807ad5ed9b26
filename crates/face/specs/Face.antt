-- What a call on the state leaves for C: its answer as a number, the state's numbers, a report of five numbers, the
-- memory and the volume.
use Rattle.std.specs.Prelude.{ℕ, Bool, true, cond, ◌&&◌, ◌||◌, not, List, [], ◌∷◌, eqb, length}
use Rattle.model.specs.Geometry.{tag_of, carry_tag, headed, start, geometry_of, valid_volume}
use Rattle.model.specs.Outcome.{StoredItem, nothing, one_item, new_heading, volume_after}
use Rattle.model.specs.Calls.{Call, outcome_of, is_call}
use Rattle.model.specs.Restart.{restart_of}
use Rattle.reports.specs.Examine.{class_number, start_number}
use Rattle.model.specs.declared.{geometry.Geometry.Geometry, geometry.Heading.TheVariants.First, answer.Answer.Answer}
use Rattle.model.specs.declared.answer.Answer.TheVariants.{Refused, Nothing, Done, Repaired}
use Rattle.face.specs.Numbers.{state_of, numbers_of, fits}

-- 0, the refusal, 256 for Nothing
abbrev pub answer_number : Answer → ℕ
answer_number (Refused n) = n
answer_number Nothing = 256
answer_number Done = 0
answer_number (Repaired r) = 0

-- offset and length of the bytes that a call stored in the volume; 0, 0 where it stored nothing
abbrev pub told_range : Geometry → StoredItem → ℕ × ℕ
told_range g nothing = (0, 0)
told_range g (one_item at xs) = (start g at, length xs)
told_range g (new_heading tag) = (0, 4)

-- class, start and count of a Load (else 0), then the range; a refusal leaves the report as it was
abbrev pub report_after : Answer → ℕ × ℕ → List ℕ → List ℕ
report_after (Refused n) x report = report
report_after Nothing x report = 0 ∷ 0 ∷ 0 ∷ x.0 ∷ x.1 ∷ []
report_after Done x report = 0 ∷ 0 ∷ 0 ∷ x.0 ∷ x.1 ∷ []
report_after (Repaired r) x report = class_number r.class ∷ start_number r.start ∷ r.count ∷ x.0 ∷ x.1 ∷ []

-- the heading is one that the call takes: Start, Restamp and Finish have one of their own
abbrev pub own_heading : Call → List ℕ → Bool
own_heading c v =
    cond (is_call 18 c) (headed (tag_of First) v) (cond (is_call 19 c || is_call 20 c) (headed carry_tag v) true)

-- the volume is not one that the call takes: row 1
abbrev pub misheaded : Call → List ℕ → Bool
misheaded c v = not (own_heading c v) || not (valid_volume v)

pub record Face : Type 0 where
  pub answer : ℕ
  pub state : List ℕ
  pub report : List ℕ
  pub memory : List ℕ
  pub volume : List ℕ

abbrev pub faced : ℕ → List ℕ → List ℕ → List ℕ → List ℕ → Face
faced n xs report m v = record { answer = n; state = xs; report = report; memory = m; volume = v }

-- a call for C: numbers that are no state's, and a report of another length than 5, are refused by 2, in 2's place
unfoldable pub face_of : Call → List ℕ → List ℕ → List ℕ → List ℕ → Face
face_of c v m xs report =
    let o = outcome_of c v m (state_of xs) in
    cond (fits xs && eqb (length report) 5)
    (record {
      answer = answer_number o.answer;
      state = numbers_of o.state;
      report = report_after o.answer (told_range (geometry_of v) o.stored) report;
      memory = o.memory;
      volume = volume_after v o.stored;
    })
    (record { answer = cond (misheaded c v) 1 2; state = xs; report = report; memory = m; volume = v })

-- Restart for C; a list of another length than 360 is refused by 2, in 2's place
pub record Restarted : Type 0 where
  pub answer : ℕ
  pub state : List ℕ
  pub memory : List ℕ

abbrev pub restarted : ℕ → List ℕ → List ℕ → Restarted
restarted n xs m = record { answer = n; state = xs; memory = m }

unfoldable pub restarted_of : List ℕ → List ℕ → List ℕ → Restarted
restarted_of v m xs =
    let o = restart_of v m in
    cond (eqb (length xs) 360)
    (record { answer = answer_number o.answer; state = numbers_of o.state; memory = o.memory })
    (record { answer = cond (not (valid_volume v)) 1 2; state = xs; memory = m })
