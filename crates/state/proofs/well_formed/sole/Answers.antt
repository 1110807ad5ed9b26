-- `state::well_formed::sole` meets its contract.
use native.Mathlib.Omega.{arith}
use borrow.Author.Rules.{rules}
use borrow.Author.Tests.{ne_eqb}
use Rattle.std.proofs.Common.{tests}
use Rattle.std.proofs.lemmas.Iterator.{cases_from_all, YieldsList-from_slice}
use mathlib.Core.Path.{◌≡◌, ◌∙◌}
use mathlib.Core.Bool.{true, false, not}
use lib.Dec.{eqb}
use lib.ListN.{get_or}
use Rattle.state.proofs.Lists.{every-first}
use Rattle.state.proofs.Fits.{or-second}
use Rattle.model.specs.State.{empty_frame}
use Rattle.model.specs.declared.state.Frame.{Frame}
use Rattle.state.proofs.well_formed.sole.Goals as goal

pub returns : goal.returns
returns c =
    let a = c.args in
    let page = (get_or a.table.now a.i empty_frame).page in
    let test = λ (f : Frame). not (eqb f.page page) in
    every-first test empty_frame a.table.now a.i c.all.result (omega (arith, c.told-table))
    (cases_from_all _ _ c.all.result (λ f. test f ≡ true) (λ f. test f ≡ false) c.all.ensures.ran
    (YieldsList-from_slice _ c.iter.ensures.rest) (λ x q k. search (rules, tests)) (λ x q k. search (rules, tests)))
    ∙ or-second _ _ (ne_eqb _ _ c.if-page-eq0.false)
