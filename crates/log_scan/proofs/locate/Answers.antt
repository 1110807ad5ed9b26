-- `log_scan::locate` gives the log.
use Rattle.log_scan.proofs.Located.{log-placed}
use Rattle.log_scan.proofs.locate.Goals as goal

pub invariant_of-result : goal.invariant_of-result
invariant_of-result c =
    record { placed = rw (c.ring.ensures, c.record_at.ensures) (log-placed _ _ c.args.v.now.sized) }
