-- `section::Section::next` meets its contract.
use mathlib.Core.Path.{ap, ◌∙◌}
use native.Mathlib.Omega.{arith}
use Rattle.laws.proofs.Checksums.{run-sealed}
use Rattle.model.specs.Checksum.{sealed}
use Rattle.section.proofs.SectionLaws.{none-whole}
use Rattle.section.proofs.Section.next.Goals as goal

pub returns-then-s-eq0 : goal.returns-then-s-eq0
returns-then-s-eq0 c = none-whole _ _ _ _ (c.args.self.now.placed.none c.if-s-eq0.true)

pub whole-requires : goal.whole-requires
whole-requires c h =
    let s = c.args.self.now.extent in
    ap (sealed s.size) c.item.ensures
    ∙ run-sealed s.size c.args.self.now.bytes.now s.slots s.at c.turned-place.result (omega (arith, h, c.requires))
