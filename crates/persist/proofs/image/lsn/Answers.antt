-- `persist::image::lsn` meets its contract.
use Rattle.persist.proofs.Parts.{lsn-is}
use Rattle.persist.proofs.image.lsn.Goals as goal

pub returns : goal.returns
returns c = lsn-is _ _ _ _ c.frame_at-at.ensures c.u32_at.ensures
