-- `compare::changes::common` meets its contract. The loop keeps: what the records left have in common gives the whole.
use mathlib.Core.Path.{sym, ◌∙◌}
use Rattle.compare.proofs.Beginnings.{passes, stops, common-end}
use Rattle.compare.proofs.changes.common.Goals as goal

pub returns-then-not-same : goal.returns-then-not-same
returns-then-not-same c =
    sym (stops _ _ _ _ c.loop-k-test.true _ _ c.args.v.now.read c.args.w.now.read _ _ c.«record».ensures c.record-in-loop-k.ensures _
    c.same.ensures c.if-not-same.true) ∙ c.loop-k.invariant

pub loop-k-preserved : goal.loop-k-preserved
loop-k-preserved c =
    sym (passes _ _ _ _ c.loop-k-test.true _ _ c.args.v.now.read c.args.w.now.read _ _ c.«record».ensures c.record-in-loop-k.ensures _
    c.same.ensures c.if-not-same.false) ∙ c.loop-k.invariant

pub returns : goal.returns
returns c = common-end _ _ _ _ c.loop-k-test.false c.loop-k.auto.k-end c.loop-k.invariant
