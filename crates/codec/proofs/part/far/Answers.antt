-- `codec::part::far` meets its contract. The loop keeps: the test of what is left is that of the whole.
use mathlib.Core.Path.{◌≡◌, sym, ◌∙◌}
use native.Mathlib.Omega.{arith}
use borrow.Author.Rules.{rules}
use borrow.Author.Tests.{eqb-true}
use Rattle.model.specs.Bytes.{field}
use Rattle.codec.proofs.Runs.{zero_field}
use Rattle.codec.proofs.part.far.Goals as goal

pub loop-i-preserved : goal.loop-i-preserved
loop-i-preserved c =
    let l = c.loop-i in
    let xs = c.args.s.now in
    let z : field 64 l.i xs ≡ 0 = eqb-true _ 0 (sym c.blank.ensures ∙ c.if-not-blank.false) in
    (search rules, sym (zero_field 64 l.i xs (omega arith) z) ∙ l.invariant.1)
