-- `state::next::forced` meets its contract.
use Rattle.state.proofs.Forced.{forced-in, forced-out}
use Rattle.laws.proofs.Tables.{within-bounds}
use native.Mathlib.Omega.{arith}
use Rattle.state.proofs.next.forced.Goals as goal

pub overflow_sub-i : goal.overflow_sub-i
overflow_sub-i c = let a = c.args in (within-bounds a.pages a.page c.if-page-pages.true).0

pub bounds-s-i : goal.bounds-s-i
bounds-s-i c =
    let a = c.args in
    omega (arith, within-bounds a.pages a.page c.if-page-pages.true)

pub returns-then-page-pages : goal.returns-then-page-pages
returns-then-page-pages c = forced-in _ _ _ c.if-page-pages.true

pub returns-else-page-pages : goal.returns-else-page-pages
returns-else-page-pages c = forced-out _ _ _ c.if-page-pages.false
