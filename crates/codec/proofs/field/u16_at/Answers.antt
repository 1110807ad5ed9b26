-- `codec::field::u16_at` meets its contract.
use mathlib.Core.Path.{◌≡◌, sym}
use native.Mathlib.Omega.{arith}
use Prim.Native.Nat.{◌+◌}
use lib.ListN.{get_or, get_or-eq_default}
use Rattle.codec.proofs.Stores.{field_past, field-two}
use Rattle.codec.proofs.field.u16_at.Goals as goal

pub returns-then-s-at : goal.returns-then-s-at
returns-then-s-at c = sym (field_past 2 _ c.args.s.now c.if-s-at.true)

pub returns-else-s-at-ge2 : goal.returns-else-s-at-ge2
returns-else-s-at-ge2 c =
    let a = c.args in
    let past : get_or a.s.now (a.at + 1) 0 ≡ 0 = get_or-eq_default a.s.now 0 (omega arith) in
    omega (arith, field-two a.at a.s.now, c.from.ensures, past)
