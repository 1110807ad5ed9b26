-- `repair::walk::look` meets its contract: one law of Links for each answer.
use mathlib.Core.Path.{sym, ◌∙◌}
use Rattle.repair.proofs.Links.{step-none, step-own, step-copy, step-below, step-broken, step-read, sound-read}
use Rattle.repair.proofs.walk.look.Goals.{then-c-via-then-c, then-c-via-else-c+then-readable}
use Rattle.repair.proofs.walk.look.Goals as goal

pub returns-then-n-eq0 : goal.returns-then-n-eq0
returns-then-n-eq0 c = step-none _ _ _ _ _ _ c.if-n-eq0.true

pub returns-then-c-n : goal.returns-then-c-n
returns-then-c-n c = step-own _ _ _ _ _ _ c.if-n-eq0.false c.if-c-n.true

pub returns-then-c-n-2 : goal.returns-then-c-n-2
returns-then-c-n-2 c = step-copy _ _ _ _ _ _ c.if-n-eq0.false c.if-c-n.false c.if-c-n-2.true

pub returns-then-from-c : goal.returns-then-from-c
returns-then-from-c c =
    step-below _ _ _ _ _ _ c.if-n-eq0.false c.if-c-n.false c.if-c-n-2.false (rw c.from.ensures at c.if-from-c.true)

pub returns-then-c : goal.returns-then-c
returns-then-c c =
    let held = rw c.from.ensures at c.if-from-c.false in
    step-read _ _ _ _ _ _ c.if-n-eq0.false c.if-c-n.false c.if-c-n-2.false held _ c.record-r.ensures _ c.read.ensures
    (elim c.then-c.branch [
      | then-c-via-then-c w ↦
          sound-read _ _ _ _ _ _ c.if-n-eq0.false c.if-c-n.false c.if-c-n-2.false held _ c.record-r.ensures (c.requires w.if-c.true)
      | then-c-via-else-c+then-readable w ↦ sym w.readable.ensures ∙ w.if-readable.true
    ])

pub returns : goal.returns
returns c =
    step-broken _ _ _ _ _ _ c.if-n-eq0.false c.if-c-n.false c.if-c-n-2.false (rw c.from.ensures at c.if-from-c.false) _
    c.record-r.ensures (sym c.readable.ensures ∙ c.if-readable.false)
