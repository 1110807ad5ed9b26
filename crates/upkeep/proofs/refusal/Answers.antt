-- `upkeep::refusal`: the rows of every call on the state, then 4.
use mathlib.Core.Path.{refl}
use Rattle.std.proofs.lemmas.Result.{err_from_is_err_and}
use Rattle.upkeep.proofs.Advice.{rows-first, rows-last}
use Rattle.upkeep.proofs.refusal.Goals as goal

pub returns-in_err-refusal : goal.returns-in_err-refusal
returns-in_err-refusal c =
    let a = c.args in
    let p = err_from_is_err_and c.from_residual.result c.from_residual.ensures.1 in
    rw (p.1, p.2) (rows-first a.volume.now a.memory.now a.s a.frame _ (c.in_err-refusal.ensures a.memory.now refl))

pub returns-then-not-frame-count : goal.returns-then-not-frame-count
returns-then-not-frame-count c =
    let a = c.args in
    rw c.if-not-frame-count.true at
    (rows-last a.volume.now a.memory.now a.s a.frame _ (c.in_ok-refusal.ensures a.memory.now refl) c.frames-count.ensures)

pub returns : goal.returns
returns c =
    let a = c.args in
    rw c.if-not-frame-count.false at
    (rows-last a.volume.now a.memory.now a.s a.frame _ (c.in_ok-refusal.ensures a.memory.now refl) c.frames-count.ensures)
