-- `log_scan::named` meets its contract.
use native.Mathlib.Omega.{arith}
use Rattle.log_scan.proofs.LogSweep.{page-is, kind-is}
use Rattle.log_scan.proofs.named.Goals as goal

pub returns : goal.returns
returns c =
    (page-is c.args.r.now (λ k. omega (arith, c.type_inv.r k)) _ c.four-word.ensures, kind-is c.args.r.now (λ k. omega (arith, c.type_inv.r k)) _ c.four-word.ensures)
