-- `note::encode`: five fields and the checksum make a note.
use Rattle.item.proofs.Builds.{note-is}
use Rattle.item.proofs.note.encode.Goals as goal

pub returns : goal.returns
returns c =
    note-is c.args.dst.now _ _ _ _ c.args.n c.requires c.put_u32.ensures c.put_u16.ensures c.put_u32-2.ensures c.set.ensures
