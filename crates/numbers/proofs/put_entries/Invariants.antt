use mathlib.Core.Path.{◌≡◌}
use Prim.Native.Nat.{◌*◌}
use lib.ListN.{length, take}
use Rattle.face.specs.Numbers.{entry_numbers}
use Rattle.numbers.proofs.put_entries.Given as goal

abbrev pub invariant-loop-i : goal.invariant-loop-i
invariant-loop-i l = (length l.out ≡ 320) × (take (5 * l.i) l.out ≡ take (5 * l.i) (entry_numbers l.index))
