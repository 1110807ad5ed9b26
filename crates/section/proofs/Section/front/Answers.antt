-- `section::Section::front` meets its contract.
use mathlib.Core.Path.{◌≡◌, sym, ap, ◌∙◌}
use native.Mathlib.Omega.{arith}
use Rattle.model.specs.Bytes.{field}
use Rattle.model.specs.Checksum.{sealed}
use Rattle.section.proofs.SectionLaws.{whole-none, whole-all, whole-stops, whole-on, none, one-whole, front-is}
use Rattle.section.proofs.Section.front.Goals as goal

pub loop-slot-init : goal.loop-slot-init
loop-slot-init c = (whole-none _ _ _ _, none _ _ _)

pub loop-slot-preserved : goal.loop-slot-preserved
loop-slot-preserved c =
    let s = c.args.self.now.extent in
    let l = c.loop-slot in
    let t = sym (ap (sealed s.size) c.item-item.ensures) ∙ sym c.holds.ensures ∙ c.if-not-holds.false in (
      whole-on _ _ _ _ _ l.invariant.0 c.loop-slot-test.true t,
      c.max-top.ensures ∙ one-whole _ _ _ _ _ _ l.invariant.1 t (c.u32_at.ensures ∙ ap (field 4 0) c.item-item.ensures),
    )

pub returns-then-not-holds : goal.returns-then-not-holds
returns-then-not-holds c =
    let s = c.args.self.now.extent in
    let l = c.loop-slot in
    front-is _ _ _ _ _ _ l.invariant.1
    (whole-stops _ _ _ _ _ l.invariant.0 c.loop-slot-test.true
    (sym (ap (sealed s.size) c.item-item.ensures) ∙ sym c.holds.ensures ∙ c.if-not-holds.true))

pub returns : goal.returns
returns c =
    let l = c.loop-slot in
    let s = c.args.self.now.extent in
    let e : l.slot ≡ s.slots = omega arith in
    rw e at (front-is _ _ _ _ _ _ l.invariant.1 (whole-all _ _ _ _ _ l.invariant.0 c.loop-slot-test.false))
