-- `room_report::notes::count`: what is left of the search gives the whole.
use mathlib.Core.Path.{◌≡◌, sym, ◌∙◌}
use mathlib.Core.Bool.{true, false}
use native.Mathlib.Omega.{arith}
use Rattle.laws.proofs.Search.{first-here, first_on, first-end}
use Rattle.volume.proofs.Slots.{most-notes-high}
use Rattle.reports.specs.Room.{after_notes}
use Rattle.room_report.proofs.Remaining.{note-numbers, note-tested}
use Rattle.room_report.proofs.notes.count.Goals as goal

pub returns-then-full : goal.returns-then-full
returns-then-full c =
    let v = c.args.v.now in
    let l = c.loop-i in
    let h = note-tested v.geometry v.bytes.now c.args.s l.i _ _ true c.after.ensures c.full.ensures c.if-full.true in
    (sym (first-here _ _ _ c.loop-i-test.true h) ∙ l.invariant.1, l.invariant.0)

pub loop-i-preserved : goal.loop-i-preserved
loop-i-preserved c =
    let v = c.args.v.now in
    let s = c.args.s in
    let l = c.loop-i in
    let h = note-tested v.geometry v.bytes.now s l.i _ _ false c.after.ensures c.full.ensures c.if-full.false in
    let n = note-numbers v.geometry v.bytes.now (after_notes s l.i) h in
    let m = most-notes-high v.bytes.now v.geometry v.valid v.read in
    (omega (arith, n, m), sym (first_on _ _ _ c.loop-i-test.true h) ∙ l.invariant.1)

pub returns : goal.returns
returns c =
    let v = c.args.v.now in
    let l = c.loop-i in
    let e : v.geometry.notes ≡ l.i = omega arith in
    (e ∙ (sym (first-end _ _ l.i (omega arith)) ∙ l.invariant.1), omega (arith, l.invariant.0))
