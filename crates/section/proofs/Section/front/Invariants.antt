-- `section::Section::front` meets its contract. The loop keeps: the slots passed are whole, and the highest number in them.
use mathlib.Core.Path.{◌≡◌}
use Rattle.section.specs.Section.{highest_at}
use Rattle.section.proofs.SectionLaws.{Whole}
use Rattle.section.proofs.Section.front.Given as goal

abbrev pub invariant-loop-slot : goal.invariant-loop-slot
invariant-loop-slot l =
    let s = l.self.extent in
    Whole s.size l.self.bytes.now s.at s.slots l.slot × (l.top ≡ highest_at s.size l.self.bytes.now s.at l.slot)
