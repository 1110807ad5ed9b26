-- `numbers::frames_of` meets its contract.
use mathlib.Core.Path.{refl, sym, ◌∙◌}
use Prim.Native.Nat.{◌+◌}
use native.Mathlib.Omega.{arith}
use lib.ListN.{length-set, length-replicate}
use Rattle.model.specs.State.{empty_frame}
use Rattle.model.specs.declared.state.Frame.{Frame}
use Rattle.face.specs.Numbers.{frames_of}
use Rattle.numbers.proofs.NumberLaws.{more, whole, frames_of-long, frames_of-at}
use Rattle.numbers.proofs.frames_of.Goals as goal

pub loop-i-init : goal.loop-i-init
loop-i-init c = (length-replicate {A = Frame} 16 empty_frame, refl)

pub loop-i-preserved : goal.loop-i-preserved
loop-i-preserved c =
    let l = c.loop-i in
    let t = c.loop-i-test.true in
    let xs = c.args.xs.now in (
      length-set l.table l.i _ ∙ l.invariant.0,
      more l.table (frames_of xs) l.i (l.i + 1) empty_frame _ (omega arith) (omega (arith, t, l.invariant.0))
          (l.invariant.0 ∙ sym (frames_of-long xs)) l.invariant.1 (c.frame_from.ensures ∙ sym (frames_of-at xs l.i t)),
    )

pub returns : goal.returns
returns c =
    let l = c.loop-i in
    let xs = c.args.xs.now in
    whole l.table (frames_of xs) l.i (omega (arith, l.invariant.0, c.loop-i-test.false)) (l.invariant.0 ∙ sym (frames_of-long xs)) l.invariant.1
