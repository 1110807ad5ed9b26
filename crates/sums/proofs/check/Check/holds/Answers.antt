-- `check::Check::holds`: past the end the sum's own four bytes read as 0.
use mathlib.Core.Path.{sym}
use native.Mathlib.Nat.{sub-zero}
use Rattle.model.specs.Checksum.{sum_holds}
use Rattle.sums.proofs.Past.{sum_past}
use Rattle.sums.proofs.check.Check.holds.Goals as goal

pub returns-then-n-item : goal.returns-then-n-item
unfolding sum_holds
returns-then-n-item g c = rw (c.sum.ensures, c.u32_at.ensures, sub-zero)

pub returns-else-n-item : goal.returns-else-n-item
returns-else-n-item g c = rw c.sum-else-n-item.ensures (sym (sum_past g.Self.Check.of _ _ c.if-n-item.false))
