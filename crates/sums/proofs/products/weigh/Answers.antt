-- `products::weigh`: the two sums of the words, of both products.
use Prim.Native.Nat.{◌+◌}
use Rattle.sums.specs.Products.{weights, low, high}
use Rattle.sums.proofs.Judged.{pair_of}
use Rattle.sums.proofs.Pairs.{Pair, all-fits, all_back, both-fits, often-fits, twice-fits, twice_back}
use Rattle.sums.proofs.products.weigh.Given.{Over}
use Rattle.sums.proofs.products.weigh.Goals as goal

module _ (g : Over) (c : goal.After-product-q g) where
  products : Pair (low c.args.r.now g.row.WORDS) (high c.args.r.now g.row.WORDS) g.row.WORDS (weights (65 + g.row.WORDS) g.row.WORDS)
      (weights (64 + g.row.WORDS) g.row.WORDS) c.product-p.result c.product-q.result
  products = pair_of _ _ _ _ c.requires.sized.1 (λ i. (c.type_inv.r i).fits) c.product-p.ensures c.product-q.ensures

pub overflow_sub-all : goal.overflow_sub-all
overflow_sub-all g c = all-fits (products g c)

pub overflow_add-twice : goal.overflow_add-twice
overflow_add-twice g c = both-fits (products g c)

pub overflow_mul-twice : goal.overflow_mul-twice
overflow_mul-twice g c = often-fits (products g c)

pub overflow_sub-twice : goal.overflow_sub-twice
overflow_sub-twice g c = twice-fits (products g c)

pub returns-clause-all : goal.returns-clause-all
returns-clause-all g c = all_back (products g c)

pub returns-clause-twice : goal.returns-clause-twice
returns-clause-twice g c = twice_back (products g c)
