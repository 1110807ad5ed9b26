-- `index::notes::run` meets its contract.
use Rattle.index.proofs.Located.{note-run}
use Rattle.index.proofs.notes.run.Goals as goal

pub returns : goal.returns
returns c = note-run _ _ _ c.locate.ensures.extent _ (rw c.locate.ensures.bytes at c.held.ensures)
