-- `change::raise`: in the loop the bytes from `i` on are moved, and those before are not yet.
use mathlib.Core.Path.{◌≡◌}
use Prim.Native.Nat.{◌+◌, ◌≤◌}
use lib.ListN.{length}
use Rattle.item.proofs.Slides.{moved}
use Rattle.item.proofs.change.raise.Given as goal

abbrev pub invariant-loop-i : goal.invariant-loop-i
invariant-loop-i l = (l.fn.at + l.fn.n ≤ l.i) × (length l.s ≡ length l.fn.s) × (l.s ≡ moved l.fn.s l.fn.n l.i)
