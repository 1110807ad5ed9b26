-- `face_step::touched::row` meets its contract.
use mathlib.Core.Path.{ap, ◌∙◌}
use Prim.Native.Nat.{ℕ}
use Rattle.log_scan.proofs.RowLaws.{row_below}
use Rattle.log_scan.specs.Rows.{row_of}
use Rattle.face_step.proofs.touched.row.Goals as goal

pub returns : goal.returns
returns c = (
  λ p. c.row.ensures ∙ ap (λ (n : ℕ). row_of n) (c.page.ensures p),
  rw c.row.ensures (row_below c.page.result),
)
