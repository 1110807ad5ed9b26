-- `codec::part::put` meets its contract.
use mathlib.Core.Path.{◌≡◌}
use Prim.Native.Nat.{◌+◌, ◌-◌}
use lib.ListN.{length}
use native.Mathlib.Omega.{arith}
use Rattle.laws.proofs.Parts.{put-splice}
use Rattle.codec.proofs.part.put.Goals as goal

pub returns : goal.returns
returns c =
    let a = c.args in
    let e : length a.src.now ≡ a.at + length a.src.now - a.at = omega arith in
    rw c.copy.ensures (put-splice a.dst.now a.at _ a.src.now e)
