-- `record::held` tells the kinds apart as `change_of` does.
use native.Mathlib.Omega.{arith}
use borrow.Author.Tests.{eq-eqb, ne_eqb}
use Rattle.model.specs.Change.{change_of}
use Rattle.item.proofs.record.held.Goals as goal

pub returns-in-1 : goal.returns-in-1
unfolding change_of
returns-in-1 c = simp (eq-eqb _ _ (rw c.from.ensures at c.in-1.is))

pub returns-in-2 : goal.returns-in-2
unfolding change_of
returns-in-2 c = rw (rw c.from.ensures at c.in-2.is)

pub returns-in_default : goal.returns-in_default
unfolding change_of
returns-in_default c = simp (ne_eqb c.args.e.kind 1 (λ e. omega arith), ne_eqb c.args.e.kind 2 (λ e. omega arith))
