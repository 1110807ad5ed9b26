-- `failing::count` counts the images before i that fail.
use mathlib.Core.Path.{◌≡◌}
use Prim.Native.Nat.{◌≤◌}
use Rattle.model.specs.Carry.{count_of}
use Rattle.convert.specs.Failing.{fails_at}
use Rattle.convert.proofs.failing.count.Given as goal

abbrev pub invariant-loop-i : goal.invariant-loop-i
invariant-loop-i l = (l.n ≤ l.i) × (l.n ≡ count_of l.i (fails_at l.v.geometry l.v.bytes.now l.index))
