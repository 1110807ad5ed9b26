-- `section::Section::first` meets its contract.
use Rattle.section.proofs.SectionLaws.{first_one, first-whole, first-torn}
use Rattle.section.proofs.Section.first.Goals as goal

pub returns-then-not-self : goal.returns-then-not-self
returns-then-not-self c = first_one _ _ _ c.if-not-self.true

pub returns-then-next : goal.returns-then-next
returns-then-next c = rw c.from.ensures
    (first-whole _ _ _ _ _ c.saturating_sub-below.ensures c.next.ensures c.if-not-self.false c.if-next.true)

pub returns-else-next : goal.returns-else-next
returns-else-next c = rw c.from-else-next.ensures
    (first-torn _ _ _ _ _ c.saturating_sub-below.ensures c.next.ensures c.if-not-self.false c.if-next.false)
