-- `planning_model::step::bring` meets its contract.
use Rattle.planning_model.proofs.Laws.{bring-is}
use Rattle.planning_model.proofs.Bounds.{evicted-more}
use borrow.Author.Rules.{rules}
use Rattle.planning_model.proofs.step.bring.Goals as goal

pub bring_in-pages-requires : goal.bring_in-pages-requires
bring_in-pages-requires c = (search rules, rw c.evict.ensures (evicted-more _ _ _ c.requires.2))

pub returns : goal.returns
returns c =
    let k = c in
    let a = k.args in
    bring-is a.t a.i a.m a.page a.change _ a.f k.evict.result c.bring_in-pages.result
    k.evict.ensures c.bring_in-pages.ensures c.written.ensures
