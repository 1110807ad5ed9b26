-- `compare::open_both`: a heading that is not known is row 1.
use Rattle.compare.proofs.Outcomes.{not-both}
use Rattle.compare.proofs.open_both.Goals as goal

pub returns-then-known-clause-refusal : goal.returns-then-known-clause-refusal
returns-then-known-clause-refusal c = rw (not-both _ _ _ _ c.known.ensures c.known-2.ensures c.if-known.true)
