-- `face_numbers::slots::record_numbers`: the fields as they are read.
use Rattle.face_numbers.proofs.SlotsTold.{record-told}
use Rattle.face_numbers.proofs.slots.record_numbers.Goals as goal

pub returns : goal.returns
returns c =
    record-told c.args.x.now
    c.read-e.result
    c.stands.result c.read-e.ensures
    c.stands.ensures
