-- `planning_model::frames::least_used` meets its contract.
use Rattle.planning.specs.Rehearsal.{least_used}
use Prim.Native.Nat.{◌-◌, ◌≤◌}
use mathlib.Core.Path.{◌≡◌}
use Rattle.planning_model.proofs.frames.least_used.Given as goal

abbrev pub invariant-loop-i : goal.invariant-loop-i
invariant-loop-i l = (l.f ≡ least_used l.frames l.i) × (l.f ≤ l.i - 1)
