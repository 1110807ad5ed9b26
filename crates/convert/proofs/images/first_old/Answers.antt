-- `images::first_old`: the search from image i on gives what the whole does.
use mathlib.Core.Path.{◌≡◌, sym, ◌∙◌}
use Prim.Native.Nat.{◌+◌, ◌≤◌}
use native.Mathlib.Omega.{arith}
use Rattle.model.specs.Passes.{old_at}
use Rattle.laws.proofs.Search.{first-here, first_on, first-end}
use Rattle.convert.proofs.Places.{few, first-start}
use Rattle.convert.proofs.images.first_old.Goals as goal

pub overflow_add-count : goal.overflow_add-count
overflow_add-count c = let v = c.args.v.now in omega (arith, few _ _ v.valid v.read)

pub loop-i-init : goal.loop-i-init
loop-i-init c = first-start _ _ _

pub returns-then-old_at : goal.returns-then-old_at
returns-then-old_at c =
    let v = c.args.v.now in
    let l = c.loop-i in (
      sym (first-here (old_at v.geometry v.bytes.now c.args.index) _ l.i c.loop-i-test.true
          (sym c.old_at.ensures ∙ c.if-old_at.true)) ∙ l.invariant,
      c.loop-i-test.true,
    )

pub loop-i-preserved : goal.loop-i-preserved
loop-i-preserved c =
    let v = c.args.v.now in
    let l = c.loop-i in
    sym (first_on (old_at v.geometry v.bytes.now c.args.index) _ l.i c.loop-i-test.true
    (sym c.old_at.ensures ∙ c.if-old_at.false))
    ∙ l.invariant

pub returns : goal.returns
returns c =
    let v = c.args.v.now in
    let l = c.loop-i in
    let e : v.geometry.pages + v.geometry.slots ≡ l.i = omega arith in
    let z : v.geometry.pages + v.geometry.slots ≤ l.i = omega arith in
    sym l.invariant ∙ (first-end (old_at v.geometry v.bytes.now c.args.index) (v.geometry.pages + v.geometry.slots) l.i z ∙ sym e)
