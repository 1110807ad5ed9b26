-- `record::short`: in the loop the test of what is left is that of all from the place on.
use mathlib.Core.Path.{◌≡◌}
use lib.ListN.{take, drop}
use Rattle.model.specs.Bytes.{all_zero}
use Rattle.item.proofs.record.short.Given as goal

abbrev pub invariant-loop-i : goal.invariant-loop-i
invariant-loop-i l = all_zero (drop l.i (take 60 l.r)) ≡ all_zero (drop l.from (take 60 l.r))
