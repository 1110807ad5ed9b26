use mathlib.Core.Path.{◌≡◌}
use Prim.Native.Nat.{◌*◌}
use lib.ListN.{length, take}
use Rattle.face.specs.Numbers.{frame_numbers}
use Rattle.numbers.proofs.put_frames.Given as goal

abbrev pub invariant-loop-i : goal.invariant-loop-i
invariant-loop-i l = (length l.out ≡ 32) × (take (2 * l.i) l.out ≡ take (2 * l.i) (frame_numbers l.table))
