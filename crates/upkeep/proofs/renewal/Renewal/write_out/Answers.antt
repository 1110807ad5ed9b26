-- `Renewal::write_out`: the byte put is the one that stands first in the page's body.
use Rattle.upkeep.proofs.Advice.{put-makes}
use Rattle.upkeep.proofs.renewal.Renewal.write_out.Goals as goal

pub returns : goal.returns
returns c =
    let t = c.args.self.now in
    put-makes t.volume.bytes.now t.memory.now t.state c.args.page _ t.volume.geometry t.volume.read _ _
    c.holder-f.ensures c.frame-row.ensures _ c.if-row.false c.full.ensures _ _ c.if-full.false
    c.frame_at.ensures c.byte.ensures c.put.ensures
