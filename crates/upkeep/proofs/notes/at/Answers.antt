-- `upkeep::notes::at` reads the note of the position.
use mathlib.Core.Path.{refl}
use Prim.Native.Nat.{◌+◌, ◌-◌, ◌%◌}
use native.Mathlib.Omega.{arith}
use Rattle.volume.proofs.Slots.{notes-few, note-fits}
use Rattle.upkeep.proofs.NotePositions.{note-number, note-at}
use Rattle.upkeep.proofs.notes.at.Goals as goal

pub overflow_sub-n : goal.overflow_sub-n
overflow_sub-n c =
    let v = c.args.v.now in
    omega (arith, note-number v.bytes.now v.geometry v.valid v.read c.args.s c.args.i c.requires.1 c.requires.0)

pub overflow_sub-n-2 : goal.overflow_sub-n-2
overflow_sub-n-2 c =
    let v = c.args.v.now in
    omega (arith, note-number v.bytes.now v.geometry v.valid v.read c.args.s c.args.i c.requires.1 c.requires.0)

pub nonzero_rem-n : goal.nonzero_rem-n
nonzero_rem-n c =
    let v = c.args.v.now in
    omega (arith, note-number v.bytes.now v.geometry v.valid v.read c.args.s c.args.i c.requires.1 c.requires.0)

pub overflow_cast-n : goal.overflow_cast-n
overflow_cast-n c =
    let v = c.args.v.now in
    let q = note-number v.bytes.now v.geometry v.valid v.read c.args.s c.args.i c.requires.1 c.requires.0 in
    omega (arith, q, notes-few _ _ v.valid v.read)

pub overflow_add-n : goal.overflow_add-n
overflow_add-n c =
    let v = c.args.v.now in
    let q = note-number v.bytes.now v.geometry v.valid v.read c.args.s c.args.i c.requires.1 c.requires.0 in
    omega (arith, q, notes-few _ _ v.valid v.read)

pub part-requires : goal.part-requires
part-requires c =
    let v = c.args.v.now in
    let a = c.args in
    let q = note-number v.bytes.now v.geometry v.valid v.read a.s a.i c.requires.1 c.requires.0 in
    omega (
      arith,
      rw (c.from.ensures, c.from-2.ensures, c.from-slots.ensures) at c.note_at.ensures,
      note-fits _ _ v.valid v.read q.0 (a.s.notes + a.i - v.geometry.notes),
    )

pub returns : goal.returns
returns c =
    let v = c.args.v.now in
    let a = c.args in
    note-at v.geometry v.bytes.now a.s a.i ((a.s.notes + a.i - v.geometry.notes - 1) % v.geometry.notes) _ _ _ refl
    (rw (c.from.ensures, c.from-2.ensures, c.from-slots.ensures) at c.note_at.ensures) c.part.ensures c.read.ensures
