-- `products::sums_at`: two products of 32 words make both of their sums.
use mathlib.Core.List.{List}
use Prim.Native.Nat.{ℕ}
use native.Mathlib.Omega.{arith}
use lib.IntN.{pos}
use Rattle.laws.proofs.Fields.{Bytes, bytes-part}
use Rattle.model.specs.Bytes.{part}
use Rattle.sums.proofs.Differences.{minus_pos}
use Rattle.sums.proofs.Images.{piece, Twice, All, twice-raised, words-raised, half, part-low-most, part-high-most}
use Rattle.sums.proofs.Pairs.{raised-fits, raised-cast, raised-abs}
use Rattle.sums.proofs.products.sums_at.Goals.{After-weigh-p}
use Rattle.sums.proofs.products.sums_at.Goals as goal

-- the words
module _ (c : After-weigh-p) where
  abbrev here : List ℕ
  here = part c.args.s.now c.args.at 64

  bytes : Bytes here
  bytes =
      let a = c.args in
      bytes-part a.s.now a.at 64 (λ i. (c.type_inv.s i).fits)

  twice : Twice here c.weigh-p.result.twice (pos 30539774)
  twice =
      twice-raised here bytes _ _ (rw (piece c.args.at c.args.s.now) at c.weigh-p.ensures.twice) (minus_pos 30539774)

  all : All here c.weigh-p.result.all (pos 1048576)
  all = words-raised here bytes _ _ (rw (piece c.args.at c.args.s.now) at c.weigh-p.ensures.all) (minus_pos 1048576)

pub overflow_add-a : goal.overflow_add-a
overflow_add-a c = raised-fits (all (goal.at.overflow_add-a c).After-weigh-p)

pub overflow_cast-a : goal.overflow_cast-a
overflow_cast-a c = raised-cast (all (goal.at.overflow_cast-a c).After-weigh-p)

pub overflow_add-b : goal.overflow_add-b
overflow_add-b c = raised-fits (twice (goal.at.overflow_add-b c).After-weigh-p)

pub overflow_cast-b : goal.overflow_cast-b
overflow_cast-b c = raised-cast (twice (goal.at.overflow_cast-b c).After-weigh-p)

pub overflow_mul-b : goal.overflow_mul-b
overflow_mul-b c =
    let u = (goal.at.overflow_mul-b c).After-weigh-p in
    rw (raised-abs (all u)) (omega (arith, part-low-most (here u) (bytes u)))

pub overflow_add-b-2 : goal.overflow_add-b-2
overflow_add-b-2 c =
    let u = (goal.at.overflow_add-b-2 c).After-weigh-p in
    rw (raised-abs (twice u), raised-abs (all u)) (omega (arith, half (here u) (bytes u), part-high-most (here u) (bytes u)))

pub overflow_sub-b : goal.overflow_sub-b
overflow_sub-b c =
    let u = (goal.at.overflow_sub-b c).After-weigh-p in
    rw (raised-abs (twice u), raised-abs (all u)) (omega (arith, half (here u) (bytes u)))

pub returns : goal.returns
returns c =
    let u = (goal.at.returns c).After-weigh-p in
    (raised-abs (all u), rw (raised-abs (twice u), raised-abs (all u)) (omega (arith, half (here u) (bytes u))))
