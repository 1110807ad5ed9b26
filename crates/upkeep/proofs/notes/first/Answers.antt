-- `upkeep::notes::first`: position 1, else position 2.
use mathlib.Core.Path.{sym}
use native.Mathlib.Omega.{arith}
use Rattle.upkeep.proofs.NotePositions.{none_ahead, past-new, found-one, found-two, found_none}
use Rattle.upkeep.proofs.notes.first.Goals as goal

pub returns-then-slots-k : goal.returns-then-slots-k
returns-then-slots-k c =
    let v = c.args.v.now in
    sym (none_ahead v.bytes.now v.geometry v.valid v.read c.args.s (rw (c.from-k.ensures, c.from-slots.ensures) at c.if-slots-k.true))

pub returns-then-slots-k-2 : goal.returns-then-slots-k-2
returns-then-slots-k-2 c =
    let v = c.args.v.now in
    let x = c.positions-x.ensures in
    let q = past-new v.geometry v.bytes.now c.args.s (rw (c.from-k.ensures, c.from-slots.ensures) at c.if-slots-k.false) in
    let h = rw (c.from-k.ensures, c.from-slots.ensures) at c.if-slots-k-2.true in
    (found-one v.geometry v.bytes.now c.args.s _ _ q.1 x.0 x.1 h, omega arith, omega arith)

pub returns-then-x : goal.returns-then-x
returns-then-x c =
    let v = c.args.v.now in
    let x = c.positions-x.ensures in
    let q = past-new v.geometry v.bytes.now c.args.s (rw (c.from-k.ensures, c.from-slots.ensures) at c.if-slots-k.false) in
    let h = rw (c.from-k.ensures, c.from-slots.ensures) at c.if-slots-k-2.false in
    (found-two v.geometry v.bytes.now c.args.s _ _ q.1 x.0 x.1 h c.if-x.true, omega arith, omega arith)

pub returns : goal.returns
returns c =
    let v = c.args.v.now in
    let x = c.positions-x.ensures in
    let q = past-new v.geometry v.bytes.now c.args.s (rw (c.from-k.ensures, c.from-slots.ensures) at c.if-slots-k.false) in
    let h = rw (c.from-k.ensures, c.from-slots.ensures) at c.if-slots-k-2.false in
    sym (found_none v.geometry v.bytes.now c.args.s _ _ q.1 x.0 x.1 h c.if-x.false)
