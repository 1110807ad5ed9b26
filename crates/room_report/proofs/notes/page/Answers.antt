-- `room_report::notes::page`: the page of the note that the next one would displace.
use native.Mathlib.Omega.{arith}
use Rattle.room_report.proofs.Remaining.{note-page-none, note-page-some, note-past}
use Rattle.room_report.proofs.notes.page.Goals as goal

pub returns-then-not-left-full : goal.returns-then-not-left-full
returns-then-not-left-full c = note-page-none _ _ _ _ _ c.most_notes.ensures c.full.ensures c.if-not-left-full.true

pub overflow_sub-last : goal.overflow_sub-last
overflow_sub-last c = omega (arith, (note-past _ _ _ _ _ c.most_notes.ensures c.full.ensures c.if-not-left-full.false).1)

pub returns : goal.returns
returns c =
    rw c.from.ensures (note-page-some _ _ _ _ _ c.most_notes.ensures c.full.ensures c.if-not-left-full.false
    c.stored.result c.stored.ensures)
