-- `failing::count` counts the images before i that fail.
use mathlib.Core.Path.{◌≡◌}
use Prim.Native.Nat.{◌+◌}
use native.Mathlib.Omega.{arith}
use Rattle.laws.proofs.Tables.{by_cases}
use Rattle.convert.specs.Failing.{fails_at, failing_in}
use Rattle.convert.proofs.Places.{few, count-on, count-start}
use Rattle.convert.proofs.failing.count.Goals as goal

pub overflow_add-images : goal.overflow_add-images
overflow_add-images c = let v = c.args.v.now in omega (arith, few _ _ v.valid v.read)

pub loop-i-init : goal.loop-i-init
loop-i-init c = (omega arith, count-start _)

pub loop-i-preserved : goal.loop-i-preserved
loop-i-preserved c =
    let v = c.args.v.now in
    let l = c.loop-i in (
      by_cases c.fails.result
          (λ t. rw (c.from-n.ensures, t) (omega (arith, l.invariant.0)))
          (λ t. rw (c.from-n.ensures, t) (omega (arith, l.invariant.0))),
      count-on (fails_at v.geometry v.bytes.now c.args.index) l.i l.n _ _ l.invariant.1 c.fails.ensures c.from-n.ensures,
    )

pub returns : goal.returns
unfolding failing_in
returns c =
    let v = c.args.v.now in
    let e : c.loop-i.i ≡ v.geometry.pages + v.geometry.slots = omega arith in
    rw e at c.loop-i.invariant.1
