-- `checksum::head`: the loop keeps, as that of `terms::late`, the sums' remainders, and bounds that are linear in the words read.
use mathlib.Core.Path.{◌≡◌}
use Prim.Native.Nat.{◌+◌, ◌*◌, ◌%◌, ◌≤◌}
use lib.ListN.{drop}
use Rattle.model.specs.Checksum.{checksum_from, checksum}
use Rattle.sums.proofs.checksum.head.Given as goal

abbrev pub invariant-loop-k : goal.invariant-loop-k
invariant-loop-k l =
    (l.a ≤ 1 + 65536 * l.k) × (l.b ≤ 786433 * l.k) × (checksum_from (l.a % 65535) (l.b % 65535) (drop (2 * l.k) l.s) ≡ checksum l.s)
