-- `room_report::log::page`: the page of the record that the next one would displace.
use mathlib.Core.Path.{ap, ◌∙◌}
use native.Mathlib.Omega.{arith}
use Rattle.model.specs.Item.{record_of}
use Rattle.room_report.proofs.Remaining.{log-page-none, log-page-some, log-past}
use Rattle.room_report.proofs.log.page.Goals as goal

pub returns-then-not-left-full : goal.returns-then-not-left-full
returns-then-not-left-full c =
    log-page-none _ _ _ _ _ c.most.ensures c.full.ensures
    (rw (c.from.ensures, c.from-2.ensures, c.from-3.ensures) at c.if-not-left-full.true)

pub overflow_sub-oldest : goal.overflow_sub-oldest
overflow_sub-oldest c =
    let h = rw (c.from.ensures, c.from-2.ensures, c.from-3.ensures) at c.if-not-left-full.false in
    omega (arith, (log-past _ _ _ _ _ c.most.ensures c.full.ensures h).0)

pub returns : goal.returns
returns c =
    let h = rw (c.from.ensures, c.from-2.ensures, c.from-3.ensures) at c.if-not-left-full.false in
    let r = rw (c.from.ensures, c.from-2.ensures, c.from-4.ensures) at c.«record».ensures in
    rw c.from-5.ensures (log-page-some _ _ _ _ _ c.most.ensures c.full.ensures h c.read.result (c.read.ensures ∙ ap record_of r))
