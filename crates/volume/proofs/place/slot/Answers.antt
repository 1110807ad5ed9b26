-- `volume::place::slot` meets its contract.
use Rattle.model.specs.Geometry.{item}
use Rattle.volume.proofs.place.slot.Goals as goal

pub returns : goal.returns
unfolding item
returns c = rw (c.array.ensures, c.slot_at.ensures)
