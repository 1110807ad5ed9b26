-- `section::Section::ends` meets its contract.
use Rattle.section.proofs.SectionLaws.{ends-past, ends-here}
use Rattle.section.proofs.Section.ends.Goals as goal

pub returns-then-self-n : goal.returns-then-self-n
returns-then-self-n c = ends-past _ _ _ _ c.if-self-n.true

pub returns : goal.returns
returns c = ends-here _ _ _ _ _ _ c.if-self-n.false c.next.ensures c.rest.ensures
