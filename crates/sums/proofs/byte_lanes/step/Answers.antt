-- `byte_lanes::step`: each lane gets its byte.
use mathlib.Core.Path.{refl, ap}
use Prim.Native.Nat.{ℕ, ◌+◌}
use native.Mathlib.Omega.{arith}
use Rattle.sums.proofs.byte_lanes.step.Goals as goal

pub overflow_add-result-6 : goal.overflow_add-result-6
overflow_add-result-6 c =
    let q = c.requires in
    omega (arith, q.k_in_bounds.1, q.bounded.bx1, q.bounded.bz1)

pub overflow_add-result-7 : goal.overflow_add-result-7
overflow_add-result-7 c =
    let q = c.requires in
    omega (arith, q.k_in_bounds.1, q.bounded.bx2, q.bounded.bz2)

pub overflow_add-result-8 : goal.overflow_add-result-8
overflow_add-result-8 c =
    let q = c.requires in
    omega (arith, q.k_in_bounds.1, q.bounded.bx3, q.bounded.bz3)

pub returns : goal.returns
returns c =
    let w1 = c.from in
    let w2 = c.from-2 in
    let w3 = c.from-3 in
    let w4 = c.from-4 in
    let q = c.requires in
    let l = c.args.l in
    let i = c.args.at + c.args.k in
    let byte = c.type_inv.s in record {
      bounded_2 = record {
        bx0 = omega (arith, q.bounded.bx0, w1.ensures, (byte i).fits);
        bx1 = omega (arith, q.bounded.bx1, w2.ensures, (byte (i + 1)).fits);
        bx2 = omega (arith, q.bounded.bx2, w3.ensures, (byte (i + 2)).fits);
        bx3 = omega (arith, q.bounded.bx3, w4.ensures, (byte (i + 3)).fits);
        bz0 = omega (arith, q.k_in_bounds.1, q.bounded.bx0, q.bounded.bz0);
        bz1 = omega (arith, q.k_in_bounds.1, q.bounded.bx1, q.bounded.bz1);
        bz2 = omega (arith, q.k_in_bounds.1, q.bounded.bx2, q.bounded.bz2);
        bz3 = omega (arith, q.k_in_bounds.1, q.bounded.bx3, q.bounded.bz3);
      };
      stepped = record {
        e0 = ap (λ (n : ℕ). l.x0 + n) w1.ensures;
        e1 = ap (λ (n : ℕ). l.x1 + n) w2.ensures;
        e2 = ap (λ (n : ℕ). l.x2 + n) w3.ensures;
        e3 = ap (λ (n : ℕ). l.x3 + n) w4.ensures;
        f0 = refl;
        f1 = refl;
        f2 = refl;
        f3 = refl;
      };
    }
