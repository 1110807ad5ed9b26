-- `codec::part::past` meets its contract.
use mathlib.Core.Path.{sym, ◌∙◌}
use native.Mathlib.Omega.{arith}
use borrow.Author.Rules.{rules}
use Rattle.codec.proofs.Runs.{zero_field}
use Rattle.codec.proofs.part.past.Goals as goal

pub returns : goal.returns
returns c =
    let a = c.args in (
      search rules,
      sym (zero_field 8 a.i a.s.now (omega arith) (sym c.eight.ensures ∙ c.if-eight-ne0.false)),
    )
