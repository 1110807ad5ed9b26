-- Rows on what callers are handed: an inspection that also leaves class, start and count in a lent report, the
-- number of each command, and the room that a volume has.
use Rattle.std.specs.Prelude.{ℕ, List, [], ◌∷◌, ◌++◌, replicate, set}
use Rattle.model.specs.Outcome.{one_item}
use Rattle.model.specs.Calls.{code_of}
use Rattle.model.specs.Restart.{inspect_of}
use Rattle.reports.specs.Examine.{examine_of}
use Rattle.model.specs.Geometry.{note_at}
use Rattle.reports.specs.Room.{room_of}
use Rattle.model.specs.declared.{answer.Class.TheVariants.Failed, answer.Start.Start, command.Command.Command}
use Rattle.model.specs.declared.geometry.Heading.TheVariants.{First, Second}
use Rattle.model.specs.declared.change.Change.TheVariants.{Put, Slide}
use Rattle.model.specs.declared.command.Command.TheVariants.{Begin, Load, Force, Write, Release, StartCarry, Restamp, FinishCarry}
use Rattle.model.specs.declared.change.Change.TheVariants.{Format}
use Rattle.model.specs.declared.command.Command.TheVariants.{Change, Backup, Note}
use Rattle.cases.specs.Rows.{Row, row, same}
use Rattle.cases.specs.Opened.{opened}
use Rattle.cases.specs.Words.{bit, yes, no, accepted, refusal, report}
use Rattle.cases.specs.Build.{buffer, backup_note, stored_in}
use Rattle.cases.specs.Rings.{log_with}
use Rattle.cases.specs.Table.{whole, own_fails}

-- the refusal, the report that is left of n nines, and whether the buffer is the one given
abbrev examined : List ℕ → ℕ → List ℕ → ℕ → List ℕ
examined v page b n =
    let o = examine_of v page b (replicate n 9) in
    o.refusal ∷ bit (same o.buffer b) ∷ o.report

-- a refusal that leaves the buffer and a report of n nines
abbrev leaves : ℕ → ℕ → List ℕ
leaves refusal n = refusal ∷ yes ∷ replicate n 9

abbrev codes : List Command → List ℕ
codes [] = []
codes (c ∷ cs) = code_of c ++ codes cs

-- the refusal; how many log records and notes there is room for, each with the page that is then in the way
abbrev room_numbers : List ℕ → List ℕ
room_numbers v =
    let r = room_of v in
    r.refusal ∷ r.log.count ∷ r.log.page ∷ r.notes.count ∷ r.notes.page ∷ []

abbrev room_for : ℕ → ℕ → ℕ → ℕ → List ℕ
room_for records at_page notes at_notes_page = accepted ∷ records ∷ at_page ∷ notes ∷ at_notes_page ∷ []

-- a log of records 1 to 4 of page 1 in as many slots, and two note slots; where page 1's backup at 2 is noted
abbrev full_log : List ℕ
full_log = log_with Second (1 ∷ 2 ∷ 3 ∷ 4 ∷ [])

abbrev noted : List ℕ
noted = stored_in full_log (one_item (note_at 1) (backup_note 1 1 1 2) ∷ [])

unfoldable pub examined_rows : List Row
unfolding opened
examined_rows =
    -- K9: page 1's image fails, no backup; P is 2
    let v = whole (own_fails ∷ []) in
    let wrong = set v 0 0 in
    let short : List ℕ = replicate 255 0xAA in
    row "examine: class, start and count, and the buffer as Inspect leaves it"
    (let o = examine_of v 1 buffer (replicate 3 9) in
    o.refusal ∷ bit (same o.buffer (inspect_of v 1 buffer).buffer) ∷ (o.report ++ examined v 1 buffer 3))
    (accepted ∷ yes ∷ (report Failed Start.Format 2 ++ (accepted ∷ no ∷ report Failed Start.Format 2)))
    ∷ row "examine: refused as Inspect is, and buffer and report are left"
    (examined wrong 1 buffer 3 ++ (examined v 1 short 3 ++ examined v 3 buffer 3))
    (leaves (refusal 1) 3 ++ (leaves (refusal 2) 3 ++ leaves (refusal 3) 3))
    ∷ row "examine: 2 for a report of another length, before 3"
    (examined v 1 buffer 2 ++ (examined v 1 buffer 4 ++ (examined v 1 short 2 ++ examined v 3 buffer 0)))
    (leaves (refusal 2) 2 ++ (leaves (refusal 2) 4 ++ (leaves (refusal 2) 2 ++ leaves (refusal 2) 0)))
    ∷ row "examine: 1 before 2, by the report, by the buffer and by both"
    (examined wrong 1 buffer 2 ++ (examined wrong 1 short 3 ++ examined wrong 1 short 2))
    (leaves (refusal 1) 2 ++ (leaves (refusal 1) 3 ++ leaves (refusal 1) 2))
    ∷ row "commands: their numbers and arguments, as in docs/SCRIPT.md"
    (codes
    (Begin 1 2 3 ∷ Load 4 5 ∷ Change 6 (Format 7) ∷ Change 6 (Put 8 9) ∷ Change 6 (Slide 8 9) ∷ Force ∷ Write 10
    ∷ Backup 11 12 ∷ Release 13 ∷ Note ∷ StartCarry ∷ Restamp ∷ FinishCarry ∷ []))
    (3 ∷ 1 ∷ 2 ∷ 3 ∷ 4 ∷ 4 ∷ 5 ∷ 5 ∷ 6 ∷ 1 ∷ 0 ∷ 0 ∷ 7 ∷ 5 ∷ 6 ∷ 2 ∷ 9 ∷ 8 ∷ 0 ∷ 5 ∷ 6 ∷ 3 ∷ 9 ∷ 8 ∷ 0 ∷ 6 ∷ 7 ∷ 10
    ∷ 8 ∷ 11 ∷ 12 ∷ 17 ∷ 13 ∷ 9 ∷ 18 ∷ 19 ∷ 20 ∷ [])
    ∷ row "room: a full ring without a backup, and a full log that is no ring"
    (room_numbers full_log ++ room_numbers (log_with First (1 ∷ 2 ∷ 3 ∷ 4 ∷ [])))
    (room_for 0 1 2 0 ++ room_for 0 0 2 0)
    ∷ row "room: up to the first record above the noted backup, and to the note that is needed" (room_numbers noted)
    (room_for 2 1 1 1)
    ∷ row "room: refused as a restart is" (room_numbers (set noted 0 0)) (refusal 1 ∷ replicate 4 0)
    ∷ []
