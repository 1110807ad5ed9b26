-- `log_scan::row` meets its contract.
use borrow.Author.Tests.{le-leb, lt-leb}
use Rattle.log_scan.specs.Rows.{row_of}
use Rattle.log_scan.proofs.row.Goals as goal

pub returns-then-page-le64 : goal.returns-then-page-le64
unfolding row_of
returns-then-page-le64 c = rw (le-leb _ _ c.if-page-le64.true, c.saturating_sub.ensures)

pub returns-else-page-le64 : goal.returns-else-page-le64
unfolding row_of
returns-else-page-le64 c = rw (lt-leb _ _ c.if-page-le64.false)
