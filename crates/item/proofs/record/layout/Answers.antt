-- `record::layout` makes the three tests of `record_layout`.
use Rattle.item.proofs.Records.{layout_is}
use Rattle.item.proofs.record.layout.Goals as goal

pub returns : goal.returns
returns c =
    layout_is c.args.r.now c.read-e.result c.fits-obeys.result c.padding.result c.byte.result c.read-e.ensures
    (rw (c.from.ensures, c.from-2.ensures, c.from-3.ensures, c.from-4.ensures) at c.fits-obeys.ensures) c.byte.ensures
    (rw c.from-5.ensures at c.padding.ensures)
