-- `planning_model::pages_fit` meets its contract.
use Rattle.planning.specs.Rehearsal.{pages_fit}
use lib.ListN.{drop}
use mathlib.Core.Path.{◌≡◌}
use Rattle.planning_model.proofs.pages_fit.Given as goal

abbrev pub invariant-loop-e : goal.invariant-loop-e
invariant-loop-e l = pages_fit (drop l.e-index l.events) ≡ pages_fit l.events
