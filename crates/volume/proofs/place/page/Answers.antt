-- `volume::place::page` meets its contract.
use Rattle.model.specs.Geometry.{item}
use Rattle.volume.proofs.place.page.Goals as goal

pub returns : goal.returns
unfolding item
returns c = rw (c.array.ensures, c.page_at.ensures)
