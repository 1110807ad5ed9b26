-- `section::Section::seam` meets its contract. The loop keeps: the lower bound is below the upper one, which is a slot or their number.
use Prim.Native.Nat.{◌-◌, ◌<◌, ◌≤◌}
use Rattle.section.proofs.Section.seam.Given as goal

abbrev pub invariant-loop-low : goal.invariant-loop-low
invariant-loop-low l = (l.low < l.high) × (l.high ≤ l.self.extent.slots)

abbrev pub decreases-loop-low : goal.decreases-loop-low
decreases-loop-low l = l.high - l.low
