-- `products::product`: the loop keeps the product of the words so far.
use Rattle.sums.specs.Products.{Product}
use Rattle.sums.proofs.products.product.Given as goal

abbrev pub invariant-loop-i : goal.invariant-loop-i
invariant-loop-i g l = Product l.top l.r l.i l.t
