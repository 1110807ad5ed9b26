-- `index::notes::entering::enter` meets its contract.
use Rattle.index.proofs.NoteSweep.{write-follows, backup-follows}
use Rattle.index.proofs.notes.entering.enter.Goals as goal

pub returns-then-e-eq-WRITTEN-clause-follows : goal.returns-then-e-eq-WRITTEN-clause-follows
returns-then-e-eq-WRITTEN-clause-follows c = λ t.
    let w = rw c.from-j.ensures at (c.write.ensures.entered t) in write-follows _ _ _ c.if-e-eq-WRITTEN.true w.0 w.1

pub returns-clause-follows : goal.returns-clause-follows
returns-clause-follows c = λ t. backup-follows _ _ _ c.if-e-ne-BACKED_UP.false _ (rw c.from-j.ensures at (c.back_up.ensures.entered t))
