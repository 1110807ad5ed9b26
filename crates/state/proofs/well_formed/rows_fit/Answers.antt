-- `state::well_formed::rows_fit` meets its contract: one loop makes both tests.
use Prim.Native.Nat.{ℕ}
use borrow.Author.Rules.{rules}
use native.Mathlib.Omega.{arith}
use Rattle.std.proofs.Common.{tests}
use Rattle.std.proofs.lemmas.Iterator.{cases_from_all, YieldsList-from_range}
use mathlib.Core.Path.{◌≡◌, refl, ◌∙◌}
use mathlib.Core.Bool.{true, false, ◌&&◌, ◌||◌}
use lib.Dec.{leb}
use Rattle.state.specs.Clauses.{frame_in, page_in}
use Rattle.state.proofs.Lists.{every-below, every-two}
use Rattle.state.proofs.well_formed.rows_fit.Goals as goal

pub returns : goal.returns
returns c =
    let a = c.args in
    let s = a.s.now in
    let frame = frame_in a.g a.count s.frames s.index in
    let page = page_in a.g s.durable s.pending s.frames s.index in
    let test = λ (i : ℕ). (leb 16 i || frame i) && page i in
    every-below test 64 c.all.result (cases_from_all _ _ c.all.result (λ i. test i ≡ true) (λ i. test i ≡ false) c.all.ensures.ran
    (YieldsList-from_range 0 64 64 refl refl) (λ x q k. search (rules, tests)) (λ x q k. search (rules, tests)))
    ∙ every-two frame page 16 64 (omega arith)
