-- `terms::stepwise`: the sum of what is left, from the sums so far, is that of the whole.
use mathlib.Core.Path.{◌≡◌}
use Prim.Native.Nat.{◌-◌, ◌≤◌, ◌<◌}
use lib.ListN.{length, drop}
use Rattle.sums.proofs.terms.stepwise.Given as goal

abbrev pub invariant-loop-i : goal.invariant-loop-i
invariant-loop-i g l =
    let t = g.T.Terms in
    (l.i ≤ length l.v) × (l.a < 65535) × (l.b < 65535) × (t.from l.a l.b (drop l.i l.v) ≡ t.from 1 0 l.v)

abbrev pub decreases-loop-i : goal.decreases-loop-i
decreases-loop-i g l = length l.v - l.i
