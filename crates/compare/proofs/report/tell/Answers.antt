-- `compare::report::tell` meets its contract. The loop keeps: behind the first two, the numbers of the pages passed are written.
use mathlib.Core.Path.{◌≡◌, ◌∙◌}
use lib.ListN.{length}
use native.Mathlib.Omega.{arith}
use borrow.Author.Rules.{rules}
use Rattle.compare.proofs.Reports.{flag-is, flagged-more, flagged-all, told}
use Rattle.compare.proofs.report.tell.Goals as goal

pub loop-i-preserved : goal.loop-i-preserved
loop-i-preserved c =
    let long : length c.args.c.touched ≡ 64 = search rules in
    flagged-more _ _ long _ _ c.loop-i-test.true c.loop-i.invariant _ (c.from.ensures ∙ flag-is _)

pub returns : goal.returns
returns c =
    let long : length c.args.c.touched ≡ 64 = search rules in
    flagged-all _ _ long _ _ c.loop-i-test.false c.loop-i.invariant
    ∙ told c.args.c c.args.report.now _ _ (omega (arith, c.requires)) c.numbers-kind.ensures.0 c.numbers-kind.ensures.1
