-- `index::notes::pass` meets its contract. The loop keeps: the notes passed fit, and gave the columns; the next is at its
-- number's place.
use mathlib.Core.Path.{◌≡◌}
use Prim.Native.Nat.{◌+◌, ◌-◌, ◌*◌, ◌%◌, ◌≤◌}
use Rattle.model.specs.Geometry.{note_at, start}
use Rattle.index.proofs.NotePass.{Entered}
use Rattle.index.proofs.notes.pass.Given as goal

abbrev pub invariant-loop-n : goal.invariant-loop-n
invariant-loop-n l =
    let g = l.v.geometry in
    record {
      place : 1 ≤ g.notes → l.from ≡ start g (note_at 1) + 16 * ((l.n - 1) % g.notes);
      entered : Entered g l.v.bytes.now l.fn.u.first (l.n - l.fn.u.first) l.c;
      last : l.c.last ≡ l.fn.c.last;
    }
