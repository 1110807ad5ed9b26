-- `codec::part::front` meets its contract.
use mathlib.Core.Path.{◌∙◌}
use Rattle.codec.proofs.part.front.Goals as goal

pub returns : goal.returns
returns c = (c.near.ensures.0, c.near.ensures.1 ∙ c.far.ensures.1)
