-- `state::frames::search` meets its contract.
use native.Mathlib.Omega.{arith}
use borrow.Author.Rules.{rules}
use Rattle.std.proofs.Common.{tests}
use Rattle.std.proofs.option.Match.{if_some}
use Rattle.std.proofs.lemmas.Iterator.{IsFirst-from_position, YieldsList-from_slice}
use mathlib.Core.Path.{◌≡◌, ◌∙◌}
use Prim.Native.Nat.{◌+◌, ◌<◌}
use lib.ListN.{length}
use Rattle.std.specs.Option.{MatchOption}
use Rattle.std.specs.List.{AllWithin, HoldsAt}
use Rattle.state.proofs.frames.search.Goals.{After-position}
use mathlib.Core.Bool.{true, false}
use lib.Dec.{eqb}
use Rattle.state.proofs.Lists.{holder-none, holder-some}
use Rattle.state.proofs.frames.search.Goals as goal

-- what the search found, in the model's test
found : (c : After-position) → MatchOption c.position.result (AllWithin (λ f. eqb f.page c.args.page ≡ false) c.args.table.now 0 (length c.args.table.now))
    (λ i. (i < length c.args.table.now) × HoldsAt (λ f. eqb f.page c.args.page ≡ true) c.args.table.now i × AllWithin (λ f. eqb f.page c.args.page ≡ false) c.args.table.now 0 i)
found c =
    IsFirst-from_position _ _ c.position.result (λ f. eqb f.page c.args.page ≡ true) (λ f. eqb f.page c.args.page ≡ false) c.position.ensures.ran
    (YieldsList-from_slice c.args.table.now c.iter.ensures.rest) (λ x q k. search (rules, tests)) (λ x q k. search (rules, tests))

pub returns-in-Some : goal.returns-in-Some
returns-in-Some c =
    let first = if_some _ _ _ c.in-Some.is (found (goal.at.returns-in-Some c).After-position) in
    let e : c.in-Some.i + 1 ≡ 0 + c.in-Some.i + 1 = omega arith in
    e ∙ holder-some 0 c.args.page c.in-Some.i c.args.table.now first.0 first.1 first.2

pub returns-in-None : goal.returns-in-None
returns-in-None c =
    holder-none 0 c.args.page c.args.table.now (rw c.in-None.is at (found (goal.at.returns-in-None c).After-position))
