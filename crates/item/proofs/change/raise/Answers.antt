-- `change::raise`: in the loop the bytes from `i` on are moved, and those before are not yet.
use mathlib.Core.Path.{◌≡◌, refl, sym, ap, ◌∙◌}
use Prim.Native.Nat.{ℕ, ◌+◌, ◌-◌}
use native.Mathlib.Omega.{arith}
use lib.ListN.{get_or, set}
use Rattle.std.proofs.Common.{rules}
use Rattle.item.proofs.Slides.{moved, moved_none, moved_on, moved_all}
use Rattle.item.proofs.change.raise.Goals as goal

pub loop-i-init : goal.loop-i-init
loop-i-init c = (c.requires, refl, sym (moved_none c.args.s.now c.args.n))

pub loop-i-preserved : goal.loop-i-preserved
loop-i-preserved c =
    let a = c.args in
    let l = c.loop-i in
    let xs = a.s.now in
    let e : l.i ≡ l.i - 1 + 1 = omega arith in (
      omega arith,
      search rules,
      rw l.invariant.2 (ap (λ (j : ℕ). set (moved xs a.n j) (l.i - 1) (get_or (moved xs a.n j) (l.i - 1 - a.n) 0)) e
          ∙ moved_on xs a.n (l.i - 1) (omega arith) (omega arith)),
    )

pub returns : goal.returns
returns c =
    let a = c.args in
    let l = c.loop-i in
    let e : l.i ≡ a.at + a.n = omega arith in
    l.invariant.2 ∙ ap (moved a.s.now a.n) e ∙ moved_all a.s.now a.at a.n
