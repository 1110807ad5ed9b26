-- `room::log::full` meets its contract.
use mathlib.Core.Path.{◌∙◌}
use Prim.Native.Nat.{◌+◌}
use native.Mathlib.Omega.{arith}
use Rattle.room.proofs.FullLog.{past-turn, full-given, full-new, full-turned}
use Rattle.room.proofs.log.full.Goals as goal

pub returns-then-from-last : goal.returns-then-from-last
returns-then-from-last c =
    full-given _ _ _ _ (c.from-3.ensures ∙ c.most.ensures) (rw (c.from.ensures, c.from-2.ensures) at c.if-from-last.true)

pub returns-then-ring-last : goal.returns-then-ring-last
returns-then-ring-last c =
    full-new _ _ _ _ _ (c.from-3.ensures ∙ c.most.ensures) c.ring.ensures (rw (c.from.ensures, c.from-2.ensures) at c.if-from-last.false)
    (rw (c.from.ensures, c.from-2.ensures, c.from-slots.ensures) at c.if-ring-last.true)

pub overflow_sub-last : goal.overflow_sub-last
overflow_sub-last c =
    omega (arith, past-turn c.ring.result (c.from.result + c.from-2.result) c.from-slots.result c.if-ring-last.false)

pub returns : goal.returns
returns c =
    full-turned _ _ _ _ _ (c.from-3.ensures ∙ c.most.ensures) c.ring.ensures (rw (c.from.ensures, c.from-2.ensures) at c.if-from-last.false)
    _ (rw (c.from.ensures, c.from-2.ensures, c.from-slots.ensures) at c.if-ring-last.false)
    (rw (c.from.ensures, c.from-2.ensures, c.from-slots.ensures) at c.needed.ensures)
