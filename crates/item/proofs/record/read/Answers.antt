-- `record::read` reads the fields of `record_of`.
use Rattle.model.specs.Item.{record_of}
use Rattle.item.proofs.record.read.Goals as goal

pub returns : goal.returns
unfolding record_of
returns c =
    rw (
      c.u32_at.ensures,
      c.u32_at-2.ensures,
      c.u16_at.ensures,
      c.byte.ensures,
      c.byte-2.ensures,
      c.u16_at-2.ensures,
      c.byte-3.ensures,
    )
