-- `products::record_holds`: the numbers that are added fit the weights.
use Rattle.sums.proofs.Judged.{record-constants}
use Rattle.sums.proofs.products.record_holds.Goals as goal

pub holds-requires-clause-constants : goal.holds-requires-clause-constants
holds-requires-clause-constants c = record-constants
