-- `terms::late`: the loop keeps the sums' remainders, and bounds that are linear in the bytes read.
use Prim.Native.Nat.{◌-◌}
use lib.ListN.{length}
use Rattle.sums.specs.Sums.{Summed}
use Rattle.sums.proofs.terms.late.Given as goal

abbrev pub invariant-loop-i : goal.invariant-loop-i
invariant-loop-i g l = Summed g.T.Terms.from l.s (record { a = l.a; b = l.b; at = l.i })

abbrev pub decreases-loop-i : goal.decreases-loop-i
decreases-loop-i g l = length l.s - l.i
