-- The numbers of refusals: none is 0.
use mathlib.Core.Path.{◌≡◌}
use native.Mathlib.Omega.{arith}
use Rattle.model.specs.Refused.{refusal_number}
use Rattle.model.specs.declared.answer.Refusal.{Refusal}
use Rattle.model.specs.declared.answer.Refusal.TheVariants as no

pub refusal-some : (r : Refusal) → refusal_number r ≡ 0 → ⊥
refusal-some no.BadVolume e = omega arith
refusal-some no.BadBuffer e = omega arith
refusal-some no.NoSuchPage e = omega arith
refusal-some no.NoSuchFrame e = omega arith
refusal-some no.NoSuchSlot e = omega arith
refusal-some no.BadChange e = omega arith
refusal-some no.BlankPage e = omega arith
refusal-some no.NoFrame e = omega arith
refusal-some no.PageInUse e = omega arith
refusal-some no.ChangePending e = omega arith
refusal-some no.PendingFull e = omega arith
refusal-some no.LogFull e = omega arith
refusal-some no.NotePending e = omega arith
refusal-some no.NotesFull e = omega arith
refusal-some no.NotDurable e = omega arith
refusal-some no.SlotInUse e = omega arith
refusal-some no.BadLog e = omega arith
refusal-some no.BadNotes e = omega arith
refusal-some no.BadRecord e = omega arith
refusal-some no.OldImage e = omega arith
refusal-some no.BadLength e = omega arith
refusal-some no.BadArchive e = omega arith
refusal-some no.PageLost e = omega arith
refusal-some no.HistoryLost e = omega arith
refusal-some no.BadRehearsal e = omega arith
