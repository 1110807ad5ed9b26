-- `compare::changes::same` meets its contract. The loop keeps: what was the same so far and the test of what is left
-- come to the test of the whole.
use mathlib.Core.Path.{◌≡◌}
use mathlib.Core.Bool.{◌&&◌}
use Rattle.reports.specs.Mirror.{same_change}
use Rattle.compare.proofs.Beginnings.{same_from}
use Rattle.compare.proofs.changes.same.Given as goal

abbrev pub invariant-loop-i : goal.invariant-loop-i
invariant-loop-i l = (l.same && same_from l.r l.t l.i) ≡ same_change l.r l.t
