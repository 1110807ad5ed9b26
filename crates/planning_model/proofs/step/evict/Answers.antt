-- `planning_model::step::evict` meets its contract.
use Rattle.planning_model.proofs.Bounds.{small-more}
use Rattle.planning_model.proofs.Laws.{evict-written, evict-not}
use native.Mathlib.Omega.{arith}
use Rattle.planning_model.proofs.step.evict.Goals as goal

pub with_image-requires : goal.with_image-requires
with_image-requires c =
    rw c.page_row-r.ensures (small-more 900000 1000000 _ (omega arith) (c.requires.1 _))

pub returns-then-not-written-x : goal.returns-then-not-written-x
returns-then-not-written-x c = evict-not _ _ _ (rw c.written.ensures at c.if-not-written-x.true)

pub returns : goal.returns
returns c =
    evict-written _ _ _ _ _ _ (rw c.written.ensures at c.if-not-written-x.false) c.page_row-r.ensures c.with_image.ensures c.set_row.ensures
