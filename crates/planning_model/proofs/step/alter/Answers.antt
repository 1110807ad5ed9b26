-- `planning_model::step::alter` meets its contract.
use Rattle.planning.specs.Rehearsal.{changed}
use Rattle.planning_model.proofs.Bounds.{small-more}
use native.Mathlib.Omega.{arith}
use borrow.Author.Rules.{rules}
use Rattle.planning_model.proofs.step.alter.Goals as goal

pub with_change-requires : goal.with_change-requires
with_change-requires c =
    (rw c.page_row-r.ensures (small-more 900600 1000000 _ (omega arith) (c.requires.1 _)), search rules)

pub returns : goal.returns
unfolding changed
returns c = rw (c.set_row-pages.ensures, c.with_change.ensures, c.page_row-r.ensures)
