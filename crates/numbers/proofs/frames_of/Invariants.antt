-- `numbers::frames_of` meets its contract.
use mathlib.Core.Path.{◌≡◌}
use lib.ListN.{length, take}
use Rattle.face.specs.Numbers.{frames_of}
use Rattle.numbers.proofs.frames_of.Given as goal

abbrev pub invariant-loop-i : goal.invariant-loop-i
invariant-loop-i l = (length l.table ≡ 16) × (take l.i l.table ≡ take l.i (frames_of l.xs))
