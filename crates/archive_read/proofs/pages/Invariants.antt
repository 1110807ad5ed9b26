-- `archive_read::pages` meets its contract. The loop keeps `Counted`: k segments are cut off, up to the place.
use Prim.Native.Nat.{◌-◌}
use lib.ListN.{length}
use Rattle.archive_read.proofs.Cuts.{Counted}
use Rattle.archive_read.proofs.pages.Given as goal

abbrev pub invariant-loop-at : goal.invariant-loop-at
invariant-loop-at l = Counted l.archive l.at l.k

abbrev pub decreases-loop-at : goal.decreases-loop-at
decreases-loop-at l = length l.archive - l.at
