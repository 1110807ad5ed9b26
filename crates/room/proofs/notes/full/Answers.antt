-- `room::notes::full` meets its contract.
use Prim.Native.Nat.{◌≤◌, ◌<◌}
use native.Mathlib.Omega.{arith}
use Rattle.state.proofs.Slots.{most-notes-high}
use Rattle.model.specs.Geometry.{top_number}
use Rattle.room.proofs.FullNotes.{past-turn, full-given, full-new, full-turned}
use Rattle.room.proofs.notes.full.Goals as goal

-- past both tests: what they tell
known : (c : goal.Else-ring-last)
    → let g = c.args.v.now.geometry in let n = c.args.s.notes in (1 ≤ g.notes) × (g.notes ≤ n) × (n < top_number)
known c =
    let v = c.args.v.now in
    past-turn c.ring.result c.args.s.notes v.geometry.notes c.most_notes.result c.if-slots-most_notes.false c.if-ring-last.false
    (omega (arith, c.most_notes.ensures, most-notes-high v.bytes.now v.geometry v.valid v.read))

pub returns-then-slots-most_notes : goal.returns-then-slots-most_notes
returns-then-slots-most_notes c = full-given _ _ _ _ c.most_notes.ensures c.if-slots-most_notes.true

pub returns-then-ring-last : goal.returns-then-ring-last
returns-then-ring-last c =
    full-new _ _ _ _ c.most_notes.ensures _ c.ring.ensures c.if-slots-most_notes.false c.if-ring-last.true

pub overflow_add-last : goal.overflow_add-last
overflow_add-last c = omega (arith, (known c).2)

pub overflow_sub-last : goal.overflow_sub-last
overflow_sub-last c = omega (arith, (known c).1)

pub needed-requires : goal.needed-requires
needed-requires c =
    let k = known c in
    (k.0, omega (arith, k.0, k.1))

pub returns : goal.returns
returns c =
    full-turned _ _ _ _ c.most_notes.ensures _ c.ring.ensures c.if-slots-most_notes.false _ c.if-ring-last.false
    c.needed.ensures
