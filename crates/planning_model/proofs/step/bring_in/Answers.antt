-- `planning_model::step::bring_in` meets its contract.
use Rattle.planning_model.specs.Bounds.{Small}
use Prim.Native.Nat.{◌-◌}
use Rattle.planning_model.proofs.Bounds.{small-more}
use Rattle.planning_model.proofs.Laws.{bring-begin, bring-load, replayed-most}
use native.Mathlib.Omega.{arith}
use Rattle.planning_model.proofs.step.bring_in.Goals as goal

pub with_load-requires : goal.with_load-requires
with_load-requires c =
    let k = c in
    let s = small-more 900300 1000000 _ (omega arith) (k.requires.1 (k.args.page - 1)) in
    let q : Small 1000000 k.page_row-r.result = rw k.page_row-r.ensures s in
    (q, replayed-most k.args.t _ _ _ c.replayed-count.ensures q.1)

pub returns-then-r-eq0 : goal.returns-then-r-eq0
returns-then-r-eq0 c = bring-begin _ _ _ _ c.page_row-r.ensures c.if-r-eq0.true

pub returns : goal.returns
returns c =
    let k = c in
    bring-load _ _ _ _ _ _ _ k.page_row-r.ensures k.if-r-eq0.false c.replayed-count.ensures
    c.with_load.ensures c.set_row.ensures
