-- `restart::scan` tests in the table's order.
use Rattle.model.specs.Refusals.{restart_rows}
use Rattle.restart.proofs.Outcomes.{scan-rows}
use Rattle.restart.proofs.scan.Goals as goal

pub returns-then-not-valid-clause-refusal : goal.returns-then-not-valid-clause-refusal
unfolding restart_rows
returns-then-not-valid-clause-refusal c = rw (← c.valid.ensures, c.if-not-valid.true)

pub returns-then-not-memory-clause-refusal : goal.returns-then-not-memory-clause-refusal
unfolding restart_rows
returns-then-not-memory-clause-refusal c = rw (← c.valid.ensures, c.if-not-valid.false, ← c.memory.ensures, c.if-not-memory.true)

pub returns : goal.returns
returns c =
    record { refusal = scan-rows _ _ _ _ _ c.valid.ensures c.if-not-valid.false c.memory.ensures c.if-not-memory.false c.scan.ensures.refusal; clean = c.scan.ensures.clean }
