-- `bench_calls::cut` meets its contract.
use mathlib.Core.Path.{sym}
use native.Mathlib.Omega.{arith}
use borrow.Author.Tests.{le-leb, lt-leb}
use Rattle.laws.proofs.Tables.{when_true, when_false}
use Rattle.bench_calls.proofs.cut.Goals as goal

pub returns-then-count-le1024 : goal.returns-then-count-le1024
returns-then-count-le1024 c = (sym (when_true _ _ (le-leb _ _ c.if-count-le1024.true)), c.if-count-le1024.true)

pub returns-else-count-le1024 : goal.returns-else-count-le1024
returns-else-count-le1024 c = (sym (when_false _ _ (lt-leb _ _ c.if-count-le1024.false)), omega arith)
