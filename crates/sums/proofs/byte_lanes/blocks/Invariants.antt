-- `byte_lanes::blocks`: the sums lead to the byte sum.
use Prim.Native.Nat.{◌-◌}
use lib.ListN.{length}
use Rattle.model.specs.Checksum.{byte_sum_from}
use Rattle.sums.specs.Sums.{Summed}
use Rattle.sums.proofs.byte_lanes.blocks.Given as goal

abbrev pub invariant-loop-u : goal.invariant-loop-u
invariant-loop-u l = Summed byte_sum_from l.s l.u

abbrev pub decreases-loop-u : goal.decreases-loop-u
decreases-loop-u l = length l.s - l.u.at
