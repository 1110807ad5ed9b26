-- `archive_read::segment::follows` meets its contract: its tests are those of `in_segment`, on the fields that were read.
use Rattle.archive_read.proofs.Records.{follows_is}
use Rattle.archive_read.proofs.segment.follows.Goals as goal

pub returns : goal.returns
returns c =
    let h = c.holds in
    let e = c.read-e in
    rw c.from-owner.ensures (follows_is _ _ _ _ _ _ e.ensures h.ensures c.layout.ensures)
