-- `section::Section::highest` meets its contract. The loop keeps: the highest number of the slots passed.
use mathlib.Core.Path.{◌≡◌}
use Rattle.section.specs.Section.{highest_at}
use Rattle.section.proofs.Section.highest.Given as goal

abbrev pub invariant-loop-slot : goal.invariant-loop-slot
invariant-loop-slot l = let s = l.self.extent in l.top ≡ highest_at s.size l.self.bytes.now s.at l.slot
