-- `checksum::head`: the loop keeps, as that of `terms::late`, the sums' remainders, and bounds that are linear in the words read.
use mathlib.Core.Path.{◌≡◌, refl, sym, ◌∙◌}
use Prim.Native.Nat.{◌+◌, ◌*◌}
use native.Mathlib.Omega.{arith}
use Rattle.laws.proofs.Checksums.{checksum-word-late}
use Rattle.sums.proofs.checksum.head.Goals as goal

pub overflow_add-a : goal.overflow_add-a
overflow_add-a c = omega (arith, c.two.type_inv, c.from-a.ensures, c.loop-k.invariant.0)

pub overflow_add-b : goal.overflow_add-b
overflow_add-b c = omega (arith, c.two.type_inv, c.from-a.ensures, c.loop-k.invariant.0, c.loop-k.invariant.1)

pub loop-k-preserved : goal.loop-k-preserved
loop-k-preserved c =
    let l = c.loop-k in
    let s = c.args.s.now in
    let e : 2 * l.k + 2 ≡ 2 * (l.k + 1) = omega arith in (
      omega arith,
      omega arith,
      rw (c.from-a.ensures, c.two.ensures) (rw e at (sym (checksum-word-late l.a l.b (2 * l.k) s (omega arith)) ∙ l.invariant.2)),
    )

pub returns : goal.returns
returns c =
    let l = c.loop-k in
    let e : l.k ≡ 6 = omega arith in
    record {
      summed = record { inside = omega arith; few = omega arith; many = omega arith; leads = rw e at l.invariant.2 };
      headed = record { place = refl; few = omega arith; many = omega arith };
    }
