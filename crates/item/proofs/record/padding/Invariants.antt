-- `record::padding` meets its contract. The loop keeps: the test of what is left is that of the payload past n bytes.
use mathlib.Core.Path.{◌≡◌}
use Prim.Native.Nat.{◌+◌, ◌-◌, ◌≤◌}
use lib.ListN.{take, drop}
use Rattle.model.specs.Bytes.{all_zero}
use Rattle.item.proofs.record.padding.Given as goal

abbrev pub invariant-loop-i : goal.invariant-loop-i
invariant-loop-i l =
    (16 + l.n ≤ l.i) × (16 + l.n ≤ 52) × (l.i ≤ 60) × (all_zero (drop l.i (take 60 l.r)) ≡ all_zero (drop (16 + l.n) (take 60 l.r)))

abbrev pub decreases-loop-i : goal.decreases-loop-i
decreases-loop-i l = 60 - l.i
