-- `codec::field::two` meets its contract.
use mathlib.Core.Path.{◌≡◌}
use Prim.Native.Nat.{◌+◌, ◌*◌}
use native.Mathlib.Omega.{arith}
use lib.ListN.{get_or}
use Rattle.codec.proofs.Stores.{field-two}
use Rattle.codec.proofs.field.two.Goals as goal

pub returns : goal.returns
returns c =
    let a = c.args in
    let s = a.s.now in
    let r : c.from_le_bytes.result ≡ get_or s a.at 0 + get_or s (a.at + 1) 0 * 256 = c.from_le_bytes.ensures in
    omega (arith, r, field-two a.at s)
