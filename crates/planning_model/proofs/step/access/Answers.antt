-- `planning_model::step::access` meets its contract.
use Rattle.planning.specs.Rehearsal.{access_of}
use mathlib.Core.Path.{refl}
use borrow.Author.Tests.{lt-ltb, le-ltb}
use Rattle.planning_model.proofs.step.access.Goals as goal

pub returns-then-e-lt128 : goal.returns-then-e-lt128
unfolding access_of
returns-then-e-lt128 c = rw (lt-ltb _ _ c.if-e-lt128.true, c.from.ensures) refl

pub returns-else-e-lt128 : goal.returns-else-e-lt128
unfolding access_of
returns-else-e-lt128 c = rw (le-ltb _ _ c.if-e-lt128.false, c.from-else-e-lt128.ensures) refl
