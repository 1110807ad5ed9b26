-- `index::notes::scan` meets its contract. The loop keeps: the notes passed fit, and gave the columns.
use mathlib.Core.Path.{◌≡◌}
use Prim.Native.Nat.{◌+◌, ◌-◌, ◌%◌, ◌≤◌}
use Rattle.index.proofs.NotePass.{Entered}
use Rattle.index.proofs.notes.scan.Given as goal

abbrev pub invariant-loop-i : goal.invariant-loop-i
invariant-loop-i l =
    let g = l.v.geometry in
    record {
      entered : Entered g l.v.bytes.now l.run.first l.i l.c;
      place : 1 ≤ g.notes → l.slot ≡ (l.run.first + l.i - 1) % g.notes;
      last : l.c.last ≡ l.fn.c.last;
    }
