-- `archive_read::segment::valid` meets its contract. The loop keeps `Judging`: what is left decides.
use Prim.Native.Nat.{◌+◌, ◌-◌, ◌*◌}
use lib.ListN.{drop}
use Rattle.reports.specs.Archive.{front_segment}
use Rattle.archive_read.proofs.Records.{Judging}
use Rattle.archive_read.proofs.segment.valid.Given as goal

abbrev pub invariant-loop-i : goal.invariant-loop-i
invariant-loop-i l = Judging l.archive l.page (front_segment (drop l.at l.archive)) (l.count - l.i) (l.at + 4 + 64 * l.i) l.last
