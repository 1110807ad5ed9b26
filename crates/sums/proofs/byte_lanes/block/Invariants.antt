-- `byte_lanes::block`: the sums with those of the lanes lead to the byte sum.
use mathlib.Core.Path.{◌≡◌}
use Prim.Native.Nat.{◌+◌, ◌*◌, ◌-◌, ◌%◌, ◌≤◌}
use lib.ListN.{drop}
use Rattle.model.specs.Checksum.{byte_sum_from, byte_sum}
use Rattle.sums.specs.Quads.{Bounded, low, high}
use Rattle.sums.proofs.byte_lanes.block.Given as goal

abbrev pub invariant-loop-k : goal.invariant-loop-k
invariant-loop-k l =
    (l.k ≤ 120) × Bounded l.k l.l × Bounded l.k l.m × (l.b ≤ l.t.b + 8589934592 * l.k)
    × (byte_sum_from ((l.t.a + low l.l + low l.m) % 65535) ((l.b + high l.l + high l.m + 4 * low l.l) % 65535) (drop (l.t.at + l.k) l.s) ≡ byte_sum l.s)

abbrev pub decreases-loop-k : goal.decreases-loop-k
decreases-loop-k l = 120 - l.k
