-- `numbers::entries_fit` meets its contract. The loop keeps: whether the rows passed are held.
use mathlib.Core.Path.{◌≡◌}
use Rattle.model.specs.Tables.{every}
use Rattle.face.specs.Numbers.{entry_held}
use Rattle.numbers.proofs.entries_fit.Given as goal

abbrev pub invariant-loop-i : goal.invariant-loop-i
invariant-loop-i l = (l.held ≡ every l.i (entry_held l.xs))
