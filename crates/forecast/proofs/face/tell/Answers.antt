-- `forecast::face::tell` meets its contract: the loop writes two numbers a page.
use mathlib.Core.Path.{refl}
use borrow.Author.Rules.{rules}
use Rattle.forecast.proofs.Fills.{one_told}
use Rattle.forecast.proofs.face.tell.Goals as goal

pub loop-i-preserved : goal.loop-i-preserved
loop-i-preserved c =
    let k = c.loop-i in
    one_told c.args.pages k.figures k.i _ _ k.invariant (search rules) c.loop-i-test.true refl refl
