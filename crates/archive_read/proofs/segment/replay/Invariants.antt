-- `archive_read::segment::replay` meets its contract. The loop keeps `Replaying`: what is left, made on the body, gives the whole.
use Prim.Native.Nat.{◌+◌, ◌-◌, ◌*◌}
use lib.ListN.{drop}
use Rattle.reports.specs.Archive.{records_from}
use Rattle.archive_read.proofs.Images.{Replaying}
use Rattle.archive_read.proofs.segment.replay.Given as goal

abbrev pub invariant-loop-i : goal.invariant-loop-i
invariant-loop-i l =
    Replaying l.archive (records_from l.count (drop l.at l.archive)) l.initial.body l.body (l.count - l.i) (l.at + 64 * l.i) l.last
