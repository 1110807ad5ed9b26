-- `planning_model::figures::total` meets its contract.
use Rattle.planning_model.specs.Bounds.{Sums}
use Rattle.planning.specs.Rehearsal.{total_of}
use mathlib.Core.Path.{◌≡◌}
use Rattle.planning_model.proofs.figures.total.Given as goal

abbrev pub invariant-loop-r : goal.invariant-loop-r
invariant-loop-r l = (l.sum ≡ total_of l.r-items l.r-index) × Sums l.r-index l.sum
