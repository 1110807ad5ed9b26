-- `log_scan::run` meets its contract.
use Rattle.log_scan.proofs.Located.{log-run}
use Rattle.log_scan.proofs.run.Goals as goal

pub returns : goal.returns
returns c =
    log-run _ _ _ c.locate.ensures.extent _ (rw c.locate.ensures.bytes at c.held.ensures)
