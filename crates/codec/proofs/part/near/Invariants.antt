-- `codec::part::near` meets its contract. The loop keeps: the test of what is left is that of all from the place on.
use mathlib.Core.Path.{◌≡◌}
use Prim.Native.Nat.{◌+◌, ◌*◌}
use lib.ListN.{drop}
use Rattle.model.specs.Bytes.{all_zero}
use Rattle.codec.proofs.part.near.Given as goal

abbrev pub invariant-loop-k : goal.invariant-loop-k
invariant-loop-k l = all_zero (drop (l.from + 16 * l.k) l.s) ≡ all_zero (drop l.from l.s)
