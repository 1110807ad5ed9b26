-- `section::Section::closed` meets its contract.
use mathlib.Core.Path.{refl}
use Rattle.section.proofs.GuessLaws.{closed-full, closed-later, closed-rest}
use Rattle.section.proofs.Section.closed.Goals as goal

pub returns-then-count-slots : goal.returns-then-count-slots
returns-then-count-slots c = closed-full _ _ _ _ c.if-count-slots.true

pub returns-then-first-ne1 : goal.returns-then-first-ne1
returns-then-first-ne1 c = rw (c.from-then-first-ne1.ensures, c.from.ensures) (closed-later _ _ _ _ c.if-count-slots.false _ c.if-first-ne1.true refl)

pub returns : goal.returns
returns c = closed-rest _ _ _ _ c.if-count-slots.false _ c.if-first-ne1.false c.rest.ensures
