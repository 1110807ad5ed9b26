-- `room::notes::needed` meets its contract.
use mathlib.Core.Path.{◌≡◌}
use mathlib.Core.Bool.{true}
use Rattle.model.specs.Tables.{every}
use Rattle.room.proofs.FullNotes.{later_other}
use Rattle.room.proofs.notes.needed.Given as goal

abbrev pub invariant-loop-i : goal.invariant-loop-i
invariant-loop-i l = every l.i (later_other l.v.geometry l.v.bytes.now l.j) ≡ true
