-- The calls that take no state: Restart, Make and Inspect. States document 01, "The calls".
use Rattle.std.specs.Prelude.{ℕ}
use mathlib.Core.{Bool.cond, List.List}
use lib.{Dec.eqb, ListN.length, ListN.replicate}
use Rattle.model.specs.Tables.{first_of}
use Rattle.model.specs.Checksum.{seal_image}
use Rattle.model.specs.Geometry.{geometry_of, empty_volume}
use Rattle.model.specs.Scan.{durable_count, note_count, index_of}
use Rattle.model.specs.Repair.{scanned_view, repair_of, rebuilt}
use Rattle.model.specs.State.{zero_state, empty_frame}
use Rattle.model.specs.Refusals.{make_rows, restart_rows, inspect_rows}
use Rattle.model.specs.Outcome.{Outcome, nothing, decided}
use Rattle.model.specs.Types.{Heading, None, State, Answer, Refused, Done, Repaired}

-- the state that a volume's log and notes give, with no frame in use
unfoldable pub restart_state : List ℕ → State
restart_state v =
    let g = geometry_of v in
    record {
      durable = durable_count g v;
      pending = 0;
      notes = note_count g v;
      note = None;
      frames = replicate 16 empty_frame;
      index = index_of g v;
    }

-- Restart: "reads the volume, stores nothing, zeroes the memory, gives the state"; "A refused Restart gives a state of
-- zeros"
unfoldable pub restart_of : List ℕ → List ℕ → Outcome
restart_of v m =
    decided (restart_rows v m) m zero_state
    (record { answer = Done; state = restart_state v; memory = replicate (length m) 0; stored = nothing })

-- what Make leaves: it is the one call that writes a whole volume
pub record Made : Type 0 where
  pub answer : Answer
  pub volume : List ℕ

-- Make: "writes headings and zeros", the heading first of them. A call asks for the second heading; the first is left
-- for histories that begin with it.
unfoldable pub make_of : Heading → List ℕ → ℕ → ℕ → ℕ → ℕ → Made
make_of h v p b l n =
    let no = first_of (make_rows v p b l n) in
    cond (eqb no 0) (record { answer = Done; volume = empty_volume h p b l n })
    (record { answer = Refused no; volume = v })

-- what Inspect leaves
pub record Inspected : Type 0 where
  pub answer : Answer
  pub buffer : List ℕ

-- Inspect: "a restart, then a page rebuilt from durable records, check set, into a lent buffer of 256 bytes"
unfoldable pub inspect_of : List ℕ → ℕ → List ℕ → Inspected
inspect_of v page buffer =
    let g = geometry_of v in
    let w = scanned_view g v page in
    let no = first_of (inspect_rows v page (length buffer)) in
    cond (eqb no 0) (record { answer = Repaired (repair_of g page w); buffer = seal_image g (rebuilt g page w) })
    (record { answer = Refused no; buffer = buffer })
