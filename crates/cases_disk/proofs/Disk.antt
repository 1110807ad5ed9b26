-- The rows on what stands on disk hold: layouts, sums, changes, K1 to K12, the rules.
use Rattle.cases.specs.Rows.{Hold}
use Rattle.cases.specs.All.{disk_rows}
use Rattle.cases.proofs.Cases.{all}

pub disk-cases : Hold disk_rows
unfolding disk_rows
disk-cases = all disk_rows tt
