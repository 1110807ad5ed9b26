-- `compare::changes::same` meets its contract. The loop keeps: what was the same so far and the test of what is left
-- come to the test of the whole.
use mathlib.Core.Path.{◌≡◌, sym, ◌∙◌}
use lib.ListN.{length}
use borrow.Author.Rules.{rules}
use Rattle.compare.proofs.Beginnings.{same-next, same-end}
use Rattle.compare.proofs.changes.same.Goals as goal

pub loop-i-preserved : goal.loop-i-preserved
loop-i-preserved c =
    let long-r : length c.args.r.now ≡ 64 = search rules in
    let long-t : length c.args.t.now ≡ 64 = search rules in
    sym (same-next _ _ _ _ long-r long-t c.loop-i-test.true) ∙ c.loop-i.invariant

pub returns : goal.returns
returns c = sym (same-end _ _ _ _ c.loop-i-test.false) ∙ c.loop-i.invariant
