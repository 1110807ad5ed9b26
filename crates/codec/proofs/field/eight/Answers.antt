-- `codec::field::eight` meets its contract.
use native.Mathlib.Omega.{arith}
use Rattle.laws.proofs.Fields.{field-add}
use Rattle.codec.proofs.field.eight.Goals as goal

pub returns : goal.returns
returns c =
    let a = c.args in
    omega (arith, field-add 4 4 a.at a.s.now, c.from-2.ensures, c.four-2.ensures, c.from.ensures, c.four.ensures)
