-- `volume::heading::counts` meets its contract.
use mathlib.Core.Path.{refl}
use Rattle.model.specs.Geometry.{valid_counts}
use Rattle.volume.proofs.heading.counts.Goals as goal

pub returns : goal.returns
unfolding valid_counts
returns c = refl
