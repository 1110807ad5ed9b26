-- `terms::stepwise`: the sum of what is left, from the sums so far, is that of the whole.
use mathlib.Core.Path.{sym, ◌∙◌}
use Prim.Native.Nat.{◌+◌, ◌≤◌}
use native.Mathlib.Omega.{arith}
use lib.ListN.{length}
use Rattle.sums.proofs.terms.stepwise.Goals as goal

pub loop-i-preserved : goal.loop-i-preserved
loop-i-preserved g c =
    let l = c.loop-i in
    let t = g.T.Terms in
    let m = g.met.T.Terms in
    let s = c.args.v.now in
    let h : l.i + t.WIDTH ≤ length s = omega (arith, l.invariant.0) in (
      omega (arith, h),
      omega arith,
      omega arith,
      rw (c.term.ensures.0, c.WIDTH-i.ensures) (sym (m.next l.a l.b l.i s h) ∙ l.invariant.3),
    )

pub returns : goal.returns
returns g c =
    let l = c.loop-i in
    sym (g.met.T.Terms.end _ _ l.i c.args.v.now (omega arith)) ∙ l.invariant.3
