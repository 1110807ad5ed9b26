-- `upkeep::notes::full`: row 14.
use mathlib.Core.Path.{refl}
use Rattle.upkeep.proofs.NotePositions.{one-given, full_is}
use Rattle.upkeep.proofs.notes.full.Goals as goal

pub returns : goal.returns
returns c =
    let v = c.args.v.now in
    rw (c.eq.ensures, one-given v.geometry v.bytes.now c.args.s _ c.requires.first)
    (full_is v.geometry v.bytes.now c.args.s _ _ c.requires.ring c.most_notes.ensures refl)
