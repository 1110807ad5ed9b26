-- `room_report::notes::count`: what is left of the search gives the whole.
use Prim.Native.Nat.{◌+◌, ◌-◌, ◌≤◌}
use mathlib.Core.Path.{◌≡◌}
use Rattle.model.specs.Passes.{first_from}
use Rattle.reports.specs.Room.{notes_full_after, notes_left}
use Rattle.room_report.proofs.notes.count.Given as goal

abbrev pub invariant-loop-i : goal.invariant-loop-i
invariant-loop-i l =
    (l.s.notes + l.i ≤ 4294967295)
    × (first_from (l.slots - l.i) (notes_full_after l.v.geometry l.v.bytes.now l.s) l.i ≡ notes_left l.v.geometry l.v.bytes.now l.s)
