use Rattle.capi.proofs.ArgumentLaws.{payload-long, payload-at}
use Rattle.numbers.proofs.NumberLaws.{more, whole}
use Rattle.face.specs.Arguments.{payload_from}
use mathlib.Core.Path.{refl, sym, ◌∙◌}
use Prim.Native.Nat.{◌+◌}
use native.Mathlib.Omega.{arith}
use lib.ListN.{length-set}
use Rattle.capi.proofs.change.payload_from.Goals as goal

pub loop-i-init : goal.loop-i-init
loop-i-init c = (refl, refl)

pub loop-i-preserved : goal.loop-i-preserved
loop-i-preserved c =
    let l = c.loop-i in
    let t = c.loop-i-test.true in
    let xs = c.args.xs.now in (
      length-set l.bytes l.i _ ∙ l.invariant.0,
      more l.bytes (payload_from xs) l.i (l.i + 1) 0 _ (omega arith) (omega (arith, t, l.invariant.0))
          (l.invariant.0 ∙ sym (payload-long xs)) l.invariant.1 (c.byte.ensures ∙ sym (payload-at xs l.i t)),
    )

pub returns : goal.returns
returns c =
    let l = c.loop-i in
    let xs = c.args.xs.now in
    whole l.bytes (payload_from xs) l.i (omega (arith, l.invariant.0, c.loop-i-test.false)) (l.invariant.0 ∙ sym (payload-long xs)) l.invariant.1
