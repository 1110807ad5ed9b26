-- `note::read` reads the fields of `note_of`.
use Rattle.model.specs.Item.{note_of}
use Rattle.item.proofs.note.read.Goals as goal

pub returns : goal.returns
unfolding note_of
returns c =
    rw (c.u32_at.ensures, c.u16_at.ensures, c.byte.ensures, c.byte-2.ensures, c.u32_at-2.ensures)
