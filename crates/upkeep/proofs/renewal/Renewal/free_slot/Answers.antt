-- `Renewal::free_slot`: the search from slot b on gives what the whole does.
use mathlib.Core.Path.{◌≡◌, sym, ap, ◌∙◌}
use mathlib.Core.Bool.{not}
use Prim.Native.Nat.{◌+◌}
use native.Mathlib.Omega.{arith}
use Rattle.model.specs.Index.{slot_used}
use Rattle.laws.proofs.Search.{first-here, first_on, first-end}
use Rattle.upkeep.proofs.Slots.{slots-few, free-is}
use Rattle.upkeep.proofs.renewal.Renewal.free_slot.Goals as goal

pub overflow_add-b-end : goal.overflow_add-b-end
overflow_add-b-end c = let v = c.args.self.now.volume in omega (arith, slots-few _ _ v.valid v.read)

pub returns-then-not-used : goal.returns-then-not-used
returns-then-not-used c =
    let t = c.args.self.now in
    let l = c.loop-b in (
      sym (first-here (λ k. not (slot_used k t.state.index)) (t.volume.geometry.slots + 1) l.b c.loop-b-test.true
          (ap not (sym c.used.ensures ∙ c.if-not-used.true))) ∙ l.invariant ∙ free-is t.volume.geometry t.state,
      omega arith,
    )

pub loop-b-preserved : goal.loop-b-preserved
loop-b-preserved c =
    let t = c.args.self.now in
    let l = c.loop-b in
    sym (first_on (λ k. not (slot_used k t.state.index)) (t.volume.geometry.slots + 1) l.b c.loop-b-test.true
    (ap not (sym c.used.ensures ∙ c.if-not-used.false))) ∙ l.invariant

pub returns : goal.returns
returns c =
    let t = c.args.self.now in
    let l = c.loop-b in
    let e : l.b ≡ t.volume.geometry.slots + 1 = omega arith in
    sym (free-is t.volume.geometry t.state) ∙ sym l.invariant
    ∙ first-end (λ k. not (slot_used k t.state.index)) (t.volume.geometry.slots + 1) l.b (omega arith) ∙ e
