-- `codec::part::copy`: in the loop the first i bytes are the source's, and the length is as it was.
use mathlib.Core.Path.{◌≡◌}
use lib.ListN.{length, take}
use Rattle.codec.proofs.part.copy.Given as goal

abbrev pub invariant-loop-i : goal.invariant-loop-i
invariant-loop-i l = (length l.dst ≡ length l.fn.src) × (take l.i l.dst ≡ take l.i l.fn.src)
