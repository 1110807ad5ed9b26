-- `Target::open`: the rows, and the page that they let through.
use mathlib.Core.Path.{refl}
use Rattle.std.proofs.lemmas.Result.{err_from_is_err_and}
use Rattle.laws.proofs.Tables.{within-bounds}
use Rattle.mend.proofs.Cases.{rows-first, rows-last, slot-fits}
use Rattle.mend.proofs.Target.open.Goals as goal

pub returns-in_err-refusal-clause-refusal : goal.returns-in_err-refusal-clause-refusal
returns-in_err-refusal-clause-refusal c =
    let a = c.args in
    let p = err_from_is_err_and c.from_residual.result c.from_residual.ensures.1 in
    rw (p.1, p.2) (rows-first a.volume.now a.memory.now a.s a.frame a.page _ (c.in_err-refusal.ensures a.memory.now refl))

pub returns-then-not-page-v-clause-refusal : goal.returns-then-not-page-v-clause-refusal
returns-then-not-page-v-clause-refusal c =
    let a = c.args in
    let read = rw c.of-v.ensures at c.of-v.result.read in
    rw c.if-not-page-v.true at
    (rows-last a.volume.now a.memory.now a.s a.frame a.page (c.in_ok-refusal.ensures a.memory.now refl) _ read _ refl)

pub returns-then-not-frame-count-clause-refusal : goal.returns-then-not-frame-count-clause-refusal
returns-then-not-frame-count-clause-refusal c =
    let a = c.args in
    let read = rw c.of-v.ensures at c.of-v.result.read in
    rw (c.if-not-page-v.false, c.if-not-frame-count.true) at
    (rows-last a.volume.now a.memory.now a.s a.frame a.page (c.in_ok-refusal.ensures a.memory.now refl) _ read _ c.frames-count.ensures)

pub invariant_of-result : goal.invariant_of-result
invariant_of-result c =
    let a = c.args in
    let read = rw c.of-v.ensures at c.of-v.result.read in
    let p = within-bounds c.of-v.result.geometry.pages a.page c.if-not-page-v.false in
    record {
      low = p.0;
      high = p.1;
      read = c.entry.ensures;
      slot = rw c.entry.ensures (slot-fits a.volume.now a.memory.now a.s a.frame a.page (c.in_ok-refusal.ensures a.memory.now refl) _ read p.0 p.1);
    }

pub returns-clause-refusal : goal.returns-clause-refusal
returns-clause-refusal c =
    let a = c.args in
    let read = rw c.of-v.ensures at c.of-v.result.read in
    rw (c.if-not-page-v.false, c.if-not-frame-count.false) at
    (rows-last a.volume.now a.memory.now a.s a.frame a.page (c.in_ok-refusal.ensures a.memory.now refl) _ read _ c.frames-count.ensures)
