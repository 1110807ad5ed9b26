-- `log_scan::sweep` meets its contract.
use mathlib.Core.Path.{sym, ◌∙◌}
use Rattle.log_scan.proofs.LogSwept.{log-swept}
use Rattle.log_scan.proofs.sweep.Goals as goal

pub returns : goal.returns
returns c =
    log-swept _ _ c.args.v.now.sized c.guess_start-u.result
    (rw c.locate-log.ensures.extent at c.guess_start-u.ensures) c.in_ok-next.next _ c.in_ok-next.ensures
    (rw (c.locate-log.ensures.bytes, c.locate-log.ensures.extent) at (sym c.closed.ensures ∙ c.if-not-closed.false)) c.pass.array_long
