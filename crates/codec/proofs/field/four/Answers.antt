-- `codec::field::four` meets its contract.
use mathlib.Core.Path.{◌≡◌}
use Prim.Native.Nat.{◌+◌, ◌*◌}
use native.Mathlib.Omega.{arith}
use lib.ListN.{get_or}
use Rattle.laws.proofs.Fields.{field-add}
use Rattle.codec.proofs.Stores.{field-two}
use Rattle.codec.proofs.field.four.Goals as goal

pub returns : goal.returns
returns c =
    let a = c.args in
    let s = a.s.now in
    let r : c.from_le_bytes.result
    ≡ get_or s a.at 0 + get_or s (a.at + 1) 0 * 256 + get_or s (a.at + 2) 0 * 65536 + get_or s (a.at + 3) 0 * 16777216 =
    c.from_le_bytes.ensures in
    let e : a.at + 2 + 1 ≡ a.at + 3 = omega arith in
    omega (arith, r, field-add 2 2 a.at s, field-two a.at s, rw e at (field-two (a.at + 2) s))
