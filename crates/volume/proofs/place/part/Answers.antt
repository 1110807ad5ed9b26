-- `volume::place::part` meets its contract.
use mathlib.Core.Path.{refl}
use Rattle.laws.proofs.Parts.{part-lent}
use Rattle.volume.proofs.place.part.Goals as goal

pub returns : goal.returns
returns c = part-lent _ _ _ _ refl
