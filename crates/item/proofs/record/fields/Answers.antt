-- `record::fields` writes the 16 bytes before the payload, field by field.
use Rattle.item.proofs.Builds.{fields-is}
use Rattle.item.proofs.record.fields.Goals as goal

pub returns : goal.returns
returns c =
    fields-is c.args.dst.now _ _ _ _ c.args.e c.requires c.put_u32.ensures c.put_u32-2.ensures c.put_u16.ensures
    c.put_u16-2.ensures
