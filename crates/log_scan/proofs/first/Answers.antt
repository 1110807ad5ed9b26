-- `log_scan::first` meets its contract.
use mathlib.Core.Path.{◌∙◌}
use Rattle.log_scan.proofs.Located.{log-first}
use Rattle.log_scan.proofs.first.Goals as goal

pub returns : goal.returns
returns c = c.first.ensures ∙ rw (c.locate.ensures.bytes, c.locate.ensures.extent) (log-first _ _ _)
