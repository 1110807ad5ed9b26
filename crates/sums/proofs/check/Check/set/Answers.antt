-- `check::Check::set`: the sum is written over the last four bytes.
use mathlib.Core.Path.{◌∙◌}
use native.Mathlib.Nat.{sub-zero}
use native.Mathlib.Omega.{arith}
use Rattle.laws.proofs.Checksums.{sum-splice}
use Rattle.sums.proofs.check.Check.set.Goals as goal

pub returns : goal.returns
returns g c =
    let a = c.args in
    let r = c.sum-c in
    c.put_u32.ensures ∙ sum-splice g.Self.Check.of a.n r.result a.item.now (omega arith) (rw sub-zero at r.ensures)
