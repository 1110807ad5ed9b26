-- The rows on two logs held against each other hold.
use Rattle.cases.specs.Rows.{Hold}
use Rattle.cases.specs.Mirrors.{mirror_rows}
use Rattle.cases.proofs.Cases.{all}

pub mirror-cases : Hold mirror_rows
unfolding mirror_rows
mirror-cases = all mirror_rows tt
