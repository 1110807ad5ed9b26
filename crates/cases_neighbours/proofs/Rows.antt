-- The rows on what a page's repair and its section of the archive depend on hold.
use Rattle.cases.specs.Rows.{Hold}
use Rattle.cases.specs.Neighbours.{neighbour_rows}
use Rattle.cases.proofs.Cases.{all}

pub neighbour-cases : Hold neighbour_rows
unfolding neighbour_rows
neighbour-cases = all neighbour_rows tt
