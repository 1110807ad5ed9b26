-- `word_lanes::blocks`: the sums with those of the lanes lead to the checksum.
use mathlib.Core.Path.{◌≡◌}
use Prim.Native.Nat.{◌+◌, ◌*◌, ◌-◌, ◌%◌, ◌≤◌}
use lib.ListN.{length, drop}
use Rattle.model.specs.Checksum.{checksum_from, checksum}
use Rattle.sums.specs.Words.{Bounded, low, high}
use Rattle.sums.proofs.word_lanes.blocks.Given as goal

abbrev pub invariant-loop-i : goal.invariant-loop-i
invariant-loop-i l =
    (l.i ≤ length l.s) × Bounded l.i l.l × (l.b ≤ 16777216 + 524288 * l.i)
    × (checksum_from ((l.t.a + low l.l) % 65535) ((l.b + high l.l) % 65535) (drop l.i l.s) ≡ checksum l.s)

abbrev pub decreases-loop-i : goal.decreases-loop-i
decreases-loop-i l = length l.s - l.i
