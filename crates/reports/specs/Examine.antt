-- An inspection that also tells class, start and count, as numbers: for C.
use Rattle.std.specs.Prelude.{ℕ, cond, not, List, [], ◌∷◌, eqb, length}
use Rattle.model.specs.Tables.{Row, first_of}
use Rattle.model.specs.Geometry.{valid_volume}
use Rattle.model.specs.Refusals.{image_rows}
use Rattle.model.specs.Restart.{inspect_of}
use Rattle.model.specs.declared.{answer.Class.Class, answer.Start.Start, answer.Repair.Repair, answer.Answer.Answer}
use Rattle.model.specs.declared.answer.Class.TheVariants.{Good, Behind, Stale, Failed, Ahead}
use Rattle.model.specs.declared.answer.Answer.TheVariants.{Refused, Nothing, Done, Repaired}
use Rattle.model.specs.declared.answer.Start.TheVariants.{Own, Backup, Format}

abbrev pub class_number : Class → ℕ
class_number Good = 1
class_number Behind = 2
class_number Stale = 3
class_number Failed = 4
class_number Ahead = 5

abbrev pub start_number : Start → ℕ
start_number Own = 1
start_number Backup = 2
start_number Format = 3

-- three numbers of a repair: class, start, count
abbrev pub report_of : Repair → List ℕ
report_of r = class_number r.class ∷ start_number r.start ∷ r.count ∷ []

-- the numbers that an answer leaves in a report: those of its repair, or what was there
abbrev pub reported : Answer → List ℕ → List ℕ
reported (Refused n) report = report
reported Nothing report = report
reported Done report = report
reported (Repaired r) report = report_of r

-- what Inspect leaves where a lent report of three numbers is asked for too
pub record Examined : Type 0 where
  pub refusal : ℕ
  pub buffer : List ℕ
  pub report : List ℕ

-- a report of another length is refused as a buffer of another length is: 2, behind row 1; then as Inspect is
unfoldable pub examine_rows : List ℕ → ℕ → ℕ → ℕ → List Row
examine_rows v page size count = (not (valid_volume v), 1) ∷ (not (eqb count 3), 2) ∷ image_rows v page size

-- an inspection that also tells class, start and count
unfoldable pub examine_of : List ℕ → ℕ → List ℕ → List ℕ → Examined
examine_of v page buffer report =
    let o = inspect_of v page buffer in
    let no = first_of (examine_rows v page (length buffer) (length report)) in
    cond (eqb no 0) (record { refusal = 0; buffer = o.buffer; report = reported o.answer report })
    (record { refusal = no; buffer = buffer; report = report })
