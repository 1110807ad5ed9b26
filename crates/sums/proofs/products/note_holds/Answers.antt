-- `products::note_holds`: the numbers that are added fit the weights.
use Rattle.sums.proofs.Judged.{note-constants}
use Rattle.sums.proofs.products.note_holds.Goals as goal

pub holds-requires-clause-constants : goal.holds-requires-clause-constants
holds-requires-clause-constants c = note-constants
