-- The table of the calls on the state: of each the rows that refuse it and, beside them, what it does; its number; and
-- which outcome each name stands for. One equation says what a call leaves: `outcome_of`.
use Rattle.std.specs.Prelude.{ℕ}
use mathlib.Core.{Bool.Bool, List.List, List.[], List.◌∷◌}
use lib.{Dec.eqb, ListN.get_or, ListN.replicate}
use Rattle.model.specs.Tables.{Row}
use Rattle.model.specs.Geometry.{tag_of, carry_tag}
use Rattle.model.specs.Change.{kind_of, length_of, offset_of, fill_of}
use Rattle.model.specs.Refusals.{begin_rows, load_rows, change_rows, force_rows, write_rows, backup_rows, release_rows}
use Rattle.model.specs.Refusals.{note_rows, start_carry_rows, restamp_rows, finish_carry_rows}
use Rattle.model.specs.Outcome.{Outcome, new_heading, storing, decided}
use Rattle.model.specs.Effects.{begin_done, load_done, change_done, force_done, write_outcome, backup_done, release_done}
use Rattle.model.specs.Effects.{note_stored, restamp_done}
use Rattle.model.specs.Types.{Second, Command, Begin, Load, Force, Write, Release, StartCarry, Restamp}
use Rattle.model.specs.Types.{FinishCarry, State}
use Rattle.model.specs.declared.change.Change as changes
use Rattle.model.specs.declared.command.Command.TheVariants.{Change, Backup, Note}

-- ---- the table of the calls

-- a call of a history: a command with its payload beside it, which only a Change looks at
abbrev pub Call : Type 0
Call = Command × List ℕ

-- the payload of a call that has none
abbrev pub no_payload : List ℕ
no_payload = replicate 44 0

-- the rows that refuse it
abbrev pub rows_of : Call → List ℕ → List ℕ → State → List Row
rows_of (Begin page frame fill, _) v m s = begin_rows v m s page frame
rows_of (Load page frame, _) v m s = load_rows v m s page frame
rows_of (Change page c, _) v m s = change_rows v m s page c
rows_of (Force, _) v m s = force_rows v m s
rows_of (Write page, _) v m s = write_rows v m s page
rows_of (Backup page slot, _) v m s = backup_rows v m s page slot
rows_of (Release page, _) v m s = release_rows v m s page
rows_of (Note, _) v m s = note_rows v m s
rows_of (StartCarry, _) v m s = start_carry_rows v m s
rows_of (Restamp, _) v m s = restamp_rows v m s
rows_of (FinishCarry, _) v m s = finish_carry_rows v m s

-- what it does where they do not. Start: it "turns a volume's first heading to 43 48 50 43". Finish: it "sets §3's
-- heading"
abbrev pub done_of : Call → List ℕ → List ℕ → State → Outcome
done_of (Begin page frame fill, _) v m s = begin_done m s page frame fill
done_of (Load page frame, _) v m s = load_done v m s page frame
done_of (Change page c, payload) v m s = change_done m s page c payload
done_of (Force, _) v m s = force_done v m s
done_of (Write page, _) v m s = write_outcome v m s page
done_of (Backup page slot, _) v m s = backup_done v m s page slot
done_of (Release page, _) v m s = release_done m s page
done_of (Note, _) v m s = note_stored v m s s.note
done_of (StartCarry, _) v m s = storing (new_heading carry_tag) m s
done_of (Restamp, _) v m s = restamp_done v m s
done_of (FinishCarry, _) v m s = storing (new_heading (tag_of Second)) m s

abbrev pub outcome_of : Call → List ℕ → List ℕ → State → Outcome
outcome_of c v m s = decided (rows_of c v m s) m s (done_of c v m s)

-- a command's number (docs/SCRIPT.md's), then its arguments
abbrev pub code_of : Command → List ℕ
code_of (Begin page frame fill) = 3 ∷ page ∷ frame ∷ fill ∷ []
code_of (Load page frame) = 4 ∷ page ∷ frame ∷ []
code_of (Change page c) = 5 ∷ page ∷ kind_of c ∷ length_of c ∷ offset_of c ∷ fill_of c ∷ []
code_of Force = 6 ∷ []
code_of (Write page) = 7 ∷ page ∷ []
code_of (Backup page slot) = 8 ∷ page ∷ slot ∷ []
code_of Note = 9 ∷ []
code_of (Release page) = 17 ∷ page ∷ []
code_of StartCarry = 18 ∷ []
code_of Restamp = 19 ∷ []
code_of FinishCarry = 20 ∷ []

abbrev pub number_of : Command → ℕ
number_of c = get_or (code_of c) 0 0

-- which call it is: every question about calls is asked by this number
abbrev pub is_call : ℕ → Call → Bool
is_call n c = eqb (number_of c.0) n

-- ---- the outcomes by the calls' names

abbrev pub begin_of : List ℕ → List ℕ → State → ℕ → ℕ → ℕ → Outcome
begin_of v m s page frame fill = outcome_of (Begin page frame fill, no_payload) v m s

abbrev pub load_of : List ℕ → List ℕ → State → ℕ → ℕ → Outcome
load_of v m s page frame = outcome_of (Load page frame, no_payload) v m s

abbrev pub change_call : List ℕ → List ℕ → State → ℕ → changes.Change → List ℕ → Outcome
change_call v m s page c payload = outcome_of (Change page c, payload) v m s

abbrev pub force_of : List ℕ → List ℕ → State → Outcome
force_of v m s = outcome_of (Force, no_payload) v m s

abbrev pub write_of : List ℕ → List ℕ → State → ℕ → Outcome
write_of v m s page = outcome_of (Write page, no_payload) v m s

abbrev pub backup_of : List ℕ → List ℕ → State → ℕ → ℕ → Outcome
backup_of v m s page slot = outcome_of (Backup page slot, no_payload) v m s

abbrev pub release_of : List ℕ → List ℕ → State → ℕ → Outcome
release_of v m s page = outcome_of (Release page, no_payload) v m s

abbrev pub note_call : List ℕ → List ℕ → State → Outcome
note_call v m s = outcome_of (Note, no_payload) v m s

abbrev pub start_carry_of : List ℕ → List ℕ → State → Outcome
start_carry_of v m s = outcome_of (StartCarry, no_payload) v m s

abbrev pub restamp_of : List ℕ → List ℕ → State → Outcome
restamp_of v m s = outcome_of (Restamp, no_payload) v m s

abbrev pub finish_carry_of : List ℕ → List ℕ → State → Outcome
finish_carry_of v m s = outcome_of (FinishCarry, no_payload) v m s
