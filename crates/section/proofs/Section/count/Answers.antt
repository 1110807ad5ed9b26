-- `section::Section::count` meets its contract.
use Rattle.section.proofs.SectionLaws.{count-ring, count-run, front-slots}
use Rattle.section.proofs.Section.count.Goals as goal

pub returns-then-self : goal.returns-then-self
returns-then-self c = count-ring _ _ _ c.highest.ensures c.if-self.true

pub returns-else-self : goal.returns-else-self
returns-else-self c = count-run _ _ _ (front-slots _ _ _ _ _ c.requires) c.if-self.false
