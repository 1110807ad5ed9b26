-- `log_scan::Measured::of` gives a measured volume.
use Rattle.log_scan.proofs.Located.{sized}
use Rattle.log_scan.proofs.Measured.of.Goals as goal

pub invariant_of-result : goal.invariant_of-result
invariant_of-result c = record { sized = sized _ _ c.args.v.now.valid c.args.v.now.read }
