-- `image::store` copies, and sets the sum.
use mathlib.Core.Path.{ap, ◌∙◌}
use Rattle.model.specs.Checksum.{seal_image}
use Rattle.item.proofs.image.store.Goals as goal

pub returns : goal.returns
returns c = c.seal.ensures ∙ ap (seal_image _) c.copy.ensures
