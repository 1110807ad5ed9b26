-- `repair::class::class` meets its contract: the tests of `class_of`, in their order.
use borrow.Author.Tests.{eq-eqb, ne_eqb, lt-ltb, le-ltb}
use Rattle.model.specs.Repair.{class_of}
use Rattle.repair.proofs.class.class.Goals as goal

pub returns-then-n-durable : goal.returns-then-n-durable
unfolding class_of
returns-then-n-durable c = simp (c.if-valid.true, eq-eqb _ _ c.if-n-durable.true)

pub returns-then-durable-n : goal.returns-then-durable-n
unfolding class_of
returns-then-durable-n c = simp (c.if-valid.true, ne_eqb _ _ c.if-n-durable.false, lt-ltb _ _ c.if-durable-n.true)

pub returns-then-n-written : goal.returns-then-n-written
unfolding class_of
returns-then-n-written c =
    simp (
      c.if-valid.true,
      ne_eqb _ _ c.if-n-durable.false,
      le-ltb _ _ c.if-durable-n.false,
      lt-ltb _ _ c.if-n-written.true,
    )

pub returns-then-valid : goal.returns-then-valid
unfolding class_of
returns-then-valid c =
    simp (
      c.if-valid.true,
      ne_eqb _ _ c.if-n-durable.false,
      le-ltb _ _ c.if-durable-n.false,
      le-ltb _ _ c.if-n-written.false,
    )

pub returns : goal.returns
unfolding class_of
returns c = simp c.if-valid.false
