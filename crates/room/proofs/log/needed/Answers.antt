-- `room::log::needed` meets its contract.
use Rattle.room.proofs.FullLog.{needed-is}
use Rattle.room.proofs.log.needed.Goals as goal

pub returns : goal.returns
returns c =
    let a = c.args in
    let p = c.from-page.ensures in
    rw p (needed-is a.v.now.geometry a.v.now.bytes.now a.s a.j _ _ _ _ c.record-r.ensures c.read-e.ensures (rw p at c.entry-x.ensures)
    c.holds-whole.ensures)
