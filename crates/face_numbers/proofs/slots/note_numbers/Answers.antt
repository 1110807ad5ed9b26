-- `face_numbers::slots::note_numbers`: the fields as they are read.
use Rattle.face_numbers.proofs.SlotsTold.{note-told}
use Rattle.face_numbers.proofs.slots.note_numbers.Goals as goal

pub returns : goal.returns
returns c =
    note-told c.args.x.now
    c.read-e.result c.stands.result
    c.read-e.ensures
    c.stands.ensures
