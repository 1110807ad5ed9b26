-- `volume::place::record` meets its contract.
use Rattle.model.specs.Geometry.{item}
use Rattle.volume.proofs.place.record.Goals as goal

pub returns : goal.returns
unfolding item
returns c = rw (c.array.ensures, c.log_slot.ensures)
