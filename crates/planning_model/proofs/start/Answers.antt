-- `planning_model::start` meets its contract.
use Rattle.planning.specs.Rehearsal.{idle}
use mathlib.Core.Path.{refl}
use Rattle.planning_model.proofs.start.Goals as goal

pub returns : goal.returns
unfolding idle
returns c = refl
