-- The numbers of the refusals in document 01's table, and 0 where nothing is refused.
use Rattle.std.specs.Prelude.{ℕ, Result, Ok, Err}
use Rattle.model.specs.declared.answer.Refusal.{Refusal}
use Rattle.model.specs.declared.answer.Refusal.TheVariants as no

abbrev pub refusal_number : Refusal → ℕ
refusal_number no.BadVolume = 1
refusal_number no.BadBuffer = 2
refusal_number no.NoSuchPage = 3
refusal_number no.NoSuchFrame = 4
refusal_number no.NoSuchSlot = 5
refusal_number no.BadChange = 6
refusal_number no.BlankPage = 7
refusal_number no.NoFrame = 8
refusal_number no.PageInUse = 9
refusal_number no.ChangePending = 10
refusal_number no.PendingFull = 11
refusal_number no.LogFull = 12
refusal_number no.NotePending = 13
refusal_number no.NotesFull = 14
refusal_number no.NotDurable = 15
refusal_number no.SlotInUse = 16
refusal_number no.BadLog = 17
refusal_number no.BadNotes = 18
refusal_number no.BadRecord = 19
refusal_number no.OldImage = 20
refusal_number no.BadLength = 21
refusal_number no.BadArchive = 22
refusal_number no.PageLost = 23
refusal_number no.HistoryLost = 24
refusal_number no.BadRehearsal = 25

-- the number of a result: 0 where nothing is refused
abbrev pub error_number : {A : Type 0} → Result A Refusal → ℕ
error_number (Ok _) = 0
error_number (Err r) = refusal_number r
