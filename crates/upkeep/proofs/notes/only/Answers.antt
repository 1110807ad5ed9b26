-- `upkeep::notes::only` reads the one slot for both positions.
use Prim.Native.Nat.{◌+◌}
use native.Mathlib.Omega.{arith}
use Rattle.upkeep.proofs.NotePositions.{only-needed}
use Rattle.upkeep.proofs.notes.only.Goals as goal

pub returns : goal.returns
returns c =
    let v = c.args.v.now in
    let k = c.args.k in
    let n = c.note-r.ensures in
    let e = c.read-e.ensures in (
      only-needed v.geometry v.bytes.now k k _ _ _ c.requires (omega arith) n e c.holds-whole.ensures,
      rw (c.from.ensures, c.from-2.ensures)
          (only-needed v.geometry v.bytes.now k (k + 1) _ _ _ c.requires (omega arith) n e c.holds-whole.ensures),
    )
