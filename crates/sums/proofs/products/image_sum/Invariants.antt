-- `products::image_sum`: the loop keeps the sums of the parts so far.
use mathlib.Core.Path.{◌≡◌}
use Prim.Native.Nat.{◌+◌}
use Rattle.sums.specs.Products.{lows, highs}
use Rattle.sums.proofs.products.image_sum.Given as goal

abbrev pub invariant-loop-k : goal.invariant-loop-k
invariant-loop-k l = (l.a ≡ 1 + lows l.s l.k) × (l.b ≡ 126 + highs l.s l.k)
