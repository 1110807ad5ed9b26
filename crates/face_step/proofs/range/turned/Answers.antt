use native.Mathlib.Nat.{mod-zero, mod-le}
use mathlib.Core.Path.{refl, sym}
use native.Mathlib.Omega.{arith}
use borrow.Author.Rules.{rules}
use Rattle.face_step.proofs.range.turned.Goals as goal

pub returns-then-slots-eq0 : goal.returns-then-slots-eq0
returns-then-slots-eq0 c =
    let a = c.args in
    (rw c.if-slots-eq0.true (sym (mod-zero a.before)), search rules)

pub overflow_cast-result-2 : goal.overflow_cast-result-2
overflow_cast-result-2 c = record { fits = let a = c.args in omega (arith, mod-le a.before a.slots) }

pub returns : goal.returns
returns c =
    let a = c.args in
    (refl, omega (arith, mod-le a.before a.slots))
