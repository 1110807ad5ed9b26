-- `numbers::entries_of` meets its contract.
use mathlib.Core.Path.{◌≡◌}
use lib.ListN.{length, take}
use Rattle.face.specs.Numbers.{entries_of}
use Rattle.numbers.proofs.entries_of.Given as goal

abbrev pub invariant-loop-i : goal.invariant-loop-i
invariant-loop-i l = (length l.index ≡ 64) × (take l.i l.index ≡ take l.i (entries_of l.xs))
