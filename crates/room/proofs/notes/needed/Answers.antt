-- `room::notes::needed` meets its contract.
use Prim.Native.Nat.{◌-◌}
use mathlib.Core.Path.{◌≡◌}
use mathlib.Core.Bool.{true, false}
use native.Mathlib.Omega.{arith}
use Rattle.laws.proofs.Tables.{every-none, every_more, every-fails}
use Rattle.room.proofs.FullNotes.{turn_is, needed-torn, needed-whole}
use Rattle.room.proofs.notes.needed.Goals as goal

pub returns-then-not-whole : goal.returns-then-not-whole
returns-then-not-whole c = needed-torn _ _ _ _ _ c.whole.ensures c.if-not-whole.true

pub loop-i-init : goal.loop-i-init
loop-i-init c = every-none _

pub returns-then-whole-like : goal.returns-then-whole-like
returns-then-whole-like c =
    let a = c.args in
    let v = a.v.now in
    let t = turn_is v.geometry v.bytes.now a.j c.loop-i.i _ _ true c.whole-in-loop-i.ensures c.like.ensures
    c.if-whole-like.true in
    needed-whole v.geometry v.bytes.now a.k a.j _ false c.whole.ensures c.if-not-whole.false
    (every-fails _ _ _ c.loop-i-test.true t)

pub loop-i-preserved : goal.loop-i-preserved
loop-i-preserved c =
    let v = c.args.v.now in
    every_more _ _ c.loop-i.invariant (turn_is v.geometry v.bytes.now c.args.j c.loop-i.i _ _ false c.whole-in-loop-i.ensures c.like.ensures
    c.if-whole-like.false)

pub returns : goal.returns
returns c =
    let a = c.args in
    let v = a.v.now in
    let e : c.loop-i.i ≡ a.k - a.j = omega (arith, c.loop-i.auto.i-end, c.loop-i-test.false) in
    needed-whole v.geometry v.bytes.now a.k a.j _ true c.whole.ensures c.if-not-whole.false
    (rw e at c.loop-i.invariant)
