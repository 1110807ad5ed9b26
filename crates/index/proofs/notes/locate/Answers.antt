-- `index::notes::locate` gives the notes.
use Rattle.index.proofs.Located.{note-placed}
use Rattle.index.proofs.notes.locate.Goals as goal

pub invariant_of-result : goal.invariant_of-result
invariant_of-result c =
    record { placed = rw (c.ring.ensures, c.note_at.ensures) (note-placed _ _ c.args.v.now.sized) }
