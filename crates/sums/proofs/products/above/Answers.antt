-- `products::above`: what a part weighs more.
use borrow.Author.Tests.{lt-ltb, le-ltb}
use native.Mathlib.Omega.{arith}
use Rattle.sums.proofs.products.above.Goals as goal

pub returns-then-k-lt3 : goal.returns-then-k-lt3
returns-then-k-lt3 c = (rw (lt-ltb c.args.k 3 c.if-k-lt3.true), omega arith)

pub returns-else-k-lt3 : goal.returns-else-k-lt3
returns-else-k-lt3 c = (rw (le-ltb c.args.k 3 c.if-k-lt3.false), omega arith)
