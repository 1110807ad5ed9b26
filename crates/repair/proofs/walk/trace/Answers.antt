-- `repair::walk::trace` meets its contract. The loop keeps `Down`: the records passed and the walk of the rest are the whole walk.
use mathlib.Core.Path.{◌≡◌, sym, ◌∙◌}
use native.Mathlib.Omega.{arith}
use borrow.Author.Tests.{eq-eqb, ne_eqb}
use Rattle.std.specs.Prelude.{Ok}
use Rattle.repair.specs.Walked.{log_of, step_of}
use Rattle.repair.proofs.Links.{step_falls}
use Rattle.repair.proofs.Walks.{down-start, down-sound, down-on, down-format, down-halt}
use Rattle.repair.proofs.walk.trace.Goals.{In-Ok}
use Rattle.repair.proofs.walk.trace.Goals as goal

-- the step to a record that is read
read : (c : In-Ok)
    → let a = c.args in
    step_of (log_of a.v.now.geometry a.v.now.bytes.now) a.c.first a.c.page a.c.own a.c.backup c.loop-stop.n ≡ Ok c.in-Ok.e
read c = sym c.look.ensures ∙ c.in-Ok.is

pub loop-stop-init : goal.loop-stop-init
loop-stop-init c = down-start _ _ _ _ _ _

pub look-requires : goal.look-requires
look-requires c = λ s. down-sound _ _ _ _ _ _ _ _ c.loop-stop.invariant (c.requires s)

pub overflow_add-count : goal.overflow_add-count
overflow_add-count c = omega (arith, step_falls _ _ _ _ _ _ _ (read c), c.loop-stop.invariant.room)

pub loop-stop-smaller : goal.loop-stop-smaller
loop-stop-smaller c = step_falls _ _ _ _ _ _ _ (read (goal.at.loop-stop-smaller c).In-Ok)

pub loop-stop-preserved : goal.loop-stop-preserved
loop-stop-preserved c =
    down-on _ _ _ _ _ _ _ _ c.loop-stop.invariant _ (read (goal.at.loop-stop-preserved c).In-Ok) (ne_eqb _ _ c.if-e-eq1.false)

pub returns-in-Err : goal.returns-in-Err
returns-in-Err c = down-halt _ _ _ _ _ _ _ _ c.loop-stop.invariant _ (sym c.look.ensures ∙ c.in-Err.is)

pub returns-then-e-eq1 : goal.returns-then-e-eq1
returns-then-e-eq1 c =
    down-format _ _ _ _ _ _ _ _ c.loop-stop.invariant _ (read (goal.at.returns-then-e-eq1 c).In-Ok) (eq-eqb _ _ c.if-e-eq1.true)
