-- `products::product`: the loop keeps the product of the words so far.
use mathlib.Core.Path.{◌≡◌}
use Prim.Native.Nat.{◌*◌}
use native.Mathlib.Omega.{arith}
use Rattle.laws.proofs.Fields.{Bytes}
use Rattle.sums.proofs.Turns.{Turn, no_words, word_back, sum_fits, sum-next}
use Rattle.sums.proofs.products.product.Given.{Over}
use Rattle.sums.proofs.products.product.Goals as goal

pub loop-i-init : goal.loop-i-init
loop-i-init g c = no_words c.args.top c.args.r.now

module _ (g : Over) (c : goal.After-from g) where
  turn : Turn c.args.top c.args.r.now c.loop-i.i c.loop-i.t-bits c.from.result
  turn =
      let s = c.args.r.now in
      let b : Bytes s = λ i. (c.type_inv.r i).fits in
      record {
        bytes = b;
        few = omega arith;
        above = omega arith;
        light = c.requires.weighed.2;
        so_far = c.loop-i.invariant;
        word = rw c.from.ensures (word_back (2 * c.loop-i.i) s _ b c.flipped.ensures);
      }

pub overflow_add-t : goal.overflow_add-t
overflow_add-t g c = sum_fits (turn g c)

pub loop-i-preserved : goal.loop-i-preserved
loop-i-preserved g c = sum-next (turn g c)

pub returns : goal.returns
returns g c = let e : c.loop-i.i ≡ g.row.WORDS = omega arith in rw e at c.loop-i.invariant
