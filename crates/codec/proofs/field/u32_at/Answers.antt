-- `codec::field::u32_at` meets its contract.
use mathlib.Core.Path.{sym}
use native.Mathlib.Omega.{arith}
use Rattle.laws.proofs.Fields.{field-add}
use Rattle.codec.proofs.Stores.{field_past}
use Rattle.codec.proofs.field.u32_at.Goals as goal

pub returns-then-s-at : goal.returns-then-s-at
returns-then-s-at c = sym (field_past 4 _ c.args.s.now c.if-s-at.true)

pub returns-else-s-at-ge4 : goal.returns-else-s-at-ge4
returns-else-s-at-ge4 c =
    let a = c.args in
    omega (
      arith,
      field-add 2 2 a.at a.s.now,
      c.from-else-s-at-ge4.ensures,
      c.u16_at-else-s-at-ge4.ensures,
      c.from.ensures,
      c.u16_at.ensures,
    )
