-- `terms::late`: the loop keeps the sums' remainders, and bounds that are linear in the bytes read.
use mathlib.Core.Path.{sym, ◌∙◌}
use Prim.Native.Nat.{◌+◌, ◌≤◌}
use native.Mathlib.Omega.{arith}
use lib.ListN.{length}
use Rattle.sums.proofs.Late.{next-late}
use Rattle.sums.proofs.terms.late.Goals as goal

pub overflow_sub-s : goal.overflow_sub-s
overflow_sub-s g c = c.loop-i.invariant.inside

pub overflow_add-a : goal.overflow_add-a
overflow_add-a g c = let n = c.loop-i.invariant in omega (arith, n.few, n.inside, c.requires.s_len_bound, c.term-a.ensures.1)

pub overflow_add-b : goal.overflow_add-b
overflow_add-b g c =
    let n = c.loop-i.invariant in
    omega (arith, n.few, n.many, n.inside, c.requires.s_len_bound, c.term-a.ensures.1)

pub loop-i-preserved : goal.loop-i-preserved
loop-i-preserved g c =
    let n = c.loop-i.invariant in
    let t = g.T.Terms in
    let m = g.met.T.Terms in
    let h : c.loop-i.i + t.WIDTH ≤ length c.args.s.now = omega (arith, n.inside) in
    record {
      inside = omega (arith, h);
      few = omega (arith, m.some, n.few, c.term-a.ensures.1);
      many = omega (arith, m.some, n.few, n.many, n.inside, c.requires.s_len_bound, c.term-a.ensures.1);
      leads = rw (c.term-a.ensures.0, c.WIDTH-i.ensures)
          (sym (next-late t.from t.term t.WIDTH m.next c.loop-i.a c.loop-i.b c.loop-i.i c.args.s.now h) ∙ n.leads);
    }

pub returns : goal.returns
returns g c =
    let l = c.loop-i in
    c.value.ensures ∙ sym (g.met.T.Terms.end _ _ l.i c.args.s.now (omega arith)) ∙ l.invariant.leads
