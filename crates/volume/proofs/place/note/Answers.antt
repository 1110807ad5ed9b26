-- `volume::place::note` meets its contract.
use Rattle.model.specs.Geometry.{item}
use Rattle.volume.proofs.place.note.Goals as goal

pub returns : goal.returns
unfolding item
returns c = rw (c.array.ensures, c.note_slot.ensures)
