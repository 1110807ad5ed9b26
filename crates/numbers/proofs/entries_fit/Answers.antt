-- `numbers::entries_fit` meets its contract. The loop keeps: whether the rows passed are held.
use mathlib.Core.Path.{◌≡◌, sym, ◌∙◌}
use native.Mathlib.Omega.{arith}
use Rattle.laws.proofs.Tables.{every-none}
use Rattle.face.specs.Numbers.{entry_held}
use Rattle.numbers.proofs.FitLaws.{every-next}
use Rattle.numbers.proofs.entries_fit.Goals as goal

pub loop-i-init : goal.loop-i-init
loop-i-init c = sym (every-none _)

pub loop-i-preserved : goal.loop-i-preserved
loop-i-preserved c =
    let l = c.loop-i in
    let xs = c.args.xs.now in
    (every-next (entry_held xs) l.i l.held l.invariant)

pub returns : goal.returns
returns c =
    let l = c.loop-i in
    let e : l.i ≡ 64 = omega (arith, c.loop-i-test.false) in
    l.invariant ∙ rw e
