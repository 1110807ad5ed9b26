-- `face_numbers::slots::backup_numbers`: what stands there, and the fields as they are read.
use mathlib.Core.Path.{refl, ◌∙◌}
use Rattle.face_numbers.proofs.SlotsTold.{backup-told}
use Rattle.face_numbers.proofs.slots.backup_numbers.Goals as goal

pub returns : goal.returns
returns c =
    backup-told _ _ _ _ _ _ _ _ (c.from-page.ensures ∙ c.u16_at.ensures) c.valid.ensures c.zero.ensures refl
    c.standing-stands.ensures c.lsn.ensures
