-- `byte_lanes::block`: the sums with those of the lanes lead to the byte sum.
use mathlib.Core.Path.{◌≡◌, sym, ap, ◌∙◌}
use Prim.Native.Nat.{ℕ, ◌+◌, ◌%◌, ◌≤◌}
use native.Mathlib.Nat.{add-zero, add_assoc}
use native.Mathlib.Omega.{arith}
use borrow.Author.Rules.{rules}
use lib.ListN.{length, drop}
use Rattle.model.specs.Checksum.{byte_sum_from}
use Rattle.sums.specs.Quads.{Bounded}
use Rattle.sums.proofs.LaneSums.{led, eight-bytes}
use Rattle.sums.proofs.byte_lanes.block.Goals as goal

-- empty lanes
bounded-none : Bounded 0 (record { x0 = 0; x1 = 0; x2 = 0; x3 = 0; z0 = 0; z1 = 0; z2 = 0; z3 = 0 })
bounded-none = search rules

pub loop-k-init : goal.loop-k-init
loop-k-init c =
    let t = c.args.t in
    let xs = c.args.s.now in
    let p₁ : t.a + 0 + 0 ≡ t.a = omega arith in
    let p₂ : t.b + 0 + 0 + 0 ≡ t.b = omega arith in
    let p₃ : t.at + 0 ≡ t.at = add-zero t.at in (
      omega arith,
      rw c.none-l.ensures bounded-none,
      rw c.none-m.ensures bounded-none,
      omega arith,
      rw (c.none-l.ensures, c.none-m.ensures) (led byte_sum_from (drop (t.at + 0) xs) p₁ p₂
          ∙ ap (λ (n : ℕ). byte_sum_from (t.a % 65535) (t.b % 65535) (drop n xs)) p₃
          ∙ c.requires.summed.leads),
    )

pub step-m-requires : goal.step-m-requires
step-m-requires c = record {
  k_in_bounds = (
    omega (arith, c.requires.at_in_bounds.0, c.loop-k-test.true),
    c.loop-k-test.true,
  );
  bounded = c.loop-k.invariant.2;
}

pub overflow_mul-b : goal.overflow_mul-b
overflow_mul-b c =
    let q = c.requires in
    omega (arith, q.at_in_bounds.1, q.summed.inside, q.summed.few)

pub overflow_add-b : goal.overflow_add-b
overflow_add-b c =
    let q = c.requires in
    let l = c.loop-k in
    omega (arith, q.at_in_bounds.1, q.summed.inside, q.summed.few, q.summed.many, l.invariant.0, l.invariant.3, c.loop-k-test.true)

pub overflow_add-k : goal.overflow_add-k
overflow_add-k c = omega (arith, c.loop-k-test.true)

pub loop-k-smaller : goal.loop-k-smaller
loop-k-smaller c = omega (arith, c.loop-k-test.true)

pub loop-k-preserved : goal.loop-k-preserved
loop-k-preserved c =
    let l = c.loop-k in
    let a = c.args in
    let q = c.requires in
    let t = a.t in
    let xs = a.s.now in
    let e₁ = c.step-l.ensures in
    let e₂ = c.step-m.ensures in
    let j : t.at + 4 + l.k ≡ t.at + l.k + 4 = omega arith in
    let h : t.at + l.k + 8 ≤ length xs = omega (arith, q.at_in_bounds.0, c.loop-k-test.true) in
    let s = eight-bytes xs (t.at + l.k) (t.at + 4 + l.k) _ _ _ _ j h e₁.stepped e₂.stepped t.a l.b in (
      omega (arith, c.loop-k-test.true),
      e₁.bounded_2,
      e₂.bounded_2,
      omega (arith, l.invariant.3, q.at_in_bounds.1, q.summed.inside, q.summed.few),
      rw (← add_assoc t.at l.k 8) (sym s ∙ l.invariant.4),
    )

pub overflow_add-result : goal.overflow_add-result
overflow_add-result c =
    let q = c.requires in
    let l = c.loop-k in
    omega (arith, q.at_in_bounds.1, q.summed.inside, q.summed.few, q.summed.many, l.invariant.0, l.invariant.3, c.low-p.ensures.1)

pub overflow_add-result-2 : goal.overflow_add-result-2
overflow_add-result-2 c =
    let q = c.requires in
    let l = c.loop-k in
    omega (
      arith,
      q.at_in_bounds.1,
      q.summed.inside,
      q.summed.few,
      q.summed.many,
      l.invariant.0,
      l.invariant.3,
      c.low-p.ensures.1,
      c.low.ensures.1,
    )

pub overflow_add-result-3 : goal.overflow_add-result-3
overflow_add-result-3 c =
    let q = c.requires in
    let l = c.loop-k in
    omega (arith, q.at_in_bounds.1, q.summed.inside, q.summed.few, q.summed.many, l.invariant.0, l.invariant.3, c.high.ensures.1)

pub overflow_add-result-4 : goal.overflow_add-result-4
overflow_add-result-4 c =
    let q = c.requires in
    let l = c.loop-k in
    omega (arith, q.at_in_bounds.1, q.summed.inside, q.summed.few, q.summed.many, l.invariant.0, l.invariant.3, c.high.ensures.1, c.high-2.ensures.1)

pub overflow_mul-result : goal.overflow_mul-result
overflow_mul-result c = omega (arith, c.low-p.ensures.1)

pub overflow_add-result-5 : goal.overflow_add-result-5
overflow_add-result-5 c =
    let q = c.requires in
    let l = c.loop-k in
    let p = c.low-p.ensures.1 in
    omega (arith, q.at_in_bounds.1, q.summed.inside, q.summed.few, q.summed.many, l.invariant.0, l.invariant.3, c.high.ensures.1, c.high-2.ensures.1, p)

pub overflow_add-result-6 : goal.overflow_add-result-6
overflow_add-result-6 c =
    let q = c.requires in
    omega (arith, q.at_in_bounds.1, q.summed.inside, c.loop-k.invariant.0)

pub returns : goal.returns
returns c =
    let l = c.loop-k in
    let a = c.args in
    let q = c.requires in
    let t = a.t in
    let p = c.low-p.ensures in
    let p₂ = c.low.ensures in
    let h = c.high.ensures in
    let h₂ = c.high-2.ensures in record {
      summed_2 = record {
        inside = omega (arith, q.at_in_bounds.0, l.invariant.0);
        few = omega (arith, q.summed.few, c.loop-k-test.false, p.1, p₂.1);
        many = omega (arith, q.summed.many, l.invariant.3, c.loop-k-test.false, p.1, h.1, h₂.1);
        leads = rw (p.0, p₂.0, h.0, h₂.0) l.invariant.4;
      };
      at_lt_at = omega (arith, c.loop-k-test.false);
    }
