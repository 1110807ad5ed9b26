-- `passes::noted` goes through the index.
use mathlib.Core.Path.{◌≡◌}
use lib.ListN.{drop}
use Rattle.model.specs.Passes.{valid_as_noted}
use Rattle.convert.proofs.passes.noted.Given as goal

abbrev pub invariant-loop-i : goal.invariant-loop-i
invariant-loop-i l = valid_as_noted l.g l.slot l.x l.i (drop l.i l.e-items) ≡ valid_as_noted l.g l.slot l.x 0 l.e-items
