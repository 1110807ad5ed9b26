-- `word_lanes::blocks`: the sums with those of the lanes lead to the checksum.
use mathlib.Core.Path.{◌≡◌, sym, ◌∙◌}
use Prim.Native.Nat.{ℕ, ◌+◌}
use native.Mathlib.Omega.{arith}
use native.Mathlib.Nat.{add-zero}
use lib.ListN.{drop}
use Rattle.model.specs.Checksum.{checksum_from}
use Rattle.sums.specs.Lanes.{all_lanes}
use Rattle.sums.specs.Words.{Bounded}
use Rattle.sums.proofs.LaneSums.{led}
use Rattle.sums.proofs.word_lanes.blocks.Goals as goal

-- empty lanes
bounded-none : (i : ℕ) → Bounded i (all_lanes 0)
bounded-none i =
    record {
      bx0 = omega arith;
      bx1 = omega arith;
      bx2 = omega arith;
      bx3 = omega arith;
      bz0 = omega arith;
      bz1 = omega arith;
      bz2 = omega arith;
      bz3 = omega arith;
    }

pub loop-i-init : goal.loop-i-init
loop-i-init c =
    let t = c.args.t in
    let q = c.requires in
    let p₁ : t.a + 0 ≡ t.a = add-zero t.a in
    let p₂ : t.b + 0 ≡ t.b = add-zero t.b in (
      q.summed.inside,
      rw c.none-l.ensures (bounded-none t.at),
      omega (arith, q.s_len_bound.1.many),
      rw c.none-l.ensures (led checksum_from (drop t.at c.args.s.now) p₁ p₂ ∙ q.summed.leads),
    )

pub loop-i-preserved : goal.loop-i-preserved
loop-i-preserved c =
    let l = c.loop-i in
    let t = c.args.t in
    let k = c.block-l.ensures in (
      omega (arith, c.loop-i-test.true),
      k.bounded_2,
      omega (arith, l.invariant.2, c.requires.s_len_bound.1.few),
      sym (k.passed.same t.a l.b) ∙ l.invariant.3,
    )

pub returns : goal.returns
returns c =
    let l = c.loop-i in
    let a = c.args in
    let q = c.requires.s_len_bound in
    let e = c.total.ensures in
    let n = l.invariant.1 in
    record {
      inside = omega (arith, e.2, l.invariant.0);
      few = omega (arith, e.0, e.2, q.1.few, q.0, l.invariant.0, n.bx0, n.bx1, n.bx2, n.bx3);
      many = omega (arith, e.1, e.2, l.invariant.2, q.0, l.invariant.0, n.bx0, n.bx1, n.bx2, n.bx3, n.bz0, n.bz1, n.bz2, n.bz3);
      leads = rw (e.0, e.1, e.2) l.invariant.3;
    }
