-- `section::Section::held` meets its contract.
use mathlib.Core.Path.{ap}
use Rattle.section.specs.declared.Front.{Front}
use Rattle.section.proofs.SectionLaws.{held-is, front_low}
use Rattle.section.proofs.Section.held.Goals as goal

pub first-requires : goal.first-requires
first-requires c = front_low c.args.self.now.bytes.now c.args.self.now.extent _ c.front-front.ensures

pub returns : goal.returns
returns c =
    held-is _ _ _ _ _ c.first.ensures c.count-count.ensures (ap (λ (f : Front). f.slots) c.front-front.ensures)
