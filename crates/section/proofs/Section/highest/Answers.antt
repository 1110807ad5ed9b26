-- `section::Section::highest` meets its contract.
use mathlib.Core.Path.{◌≡◌, ap, ◌∙◌}
use mathlib.Core.Bool.{cond}
use mathlib.Core.List.{List}
use Prim.Native.Nat.{ℕ}
use native.Mathlib.Omega.{arith}
use Rattle.model.specs.Bytes.{field}
use Rattle.model.specs.Checksum.{sealed}
use Rattle.section.specs.Section.{highest_at}
use Rattle.section.proofs.SectionLaws.{one_more, front-most}
use Rattle.section.proofs.Section.highest.Goals as goal

pub loop-slot-preserved : goal.loop-slot-preserved
loop-slot-preserved c =
    let n = c.args.self.now.extent.size in
    c.max-top.ensures
    ∙ one_more _ _ _ _ _ _ c.loop-slot.invariant
    (c.number.ensures ∙ ap (λ (p : List ℕ). cond (sealed n p) (field 4 0 p) 0) c.item.ensures)

pub returns : goal.returns
returns c =
    let s = c.args.self.now.extent in
    let most = front-most s.size c.args.self.now.bytes.now s.at s.slots _ c.requires in
    let e : c.loop-slot.slot ≡ s.slots = omega arith in
    c.loop-slot.invariant ∙ ap (highest_at s.size c.args.self.now.bytes.now s.at) e
