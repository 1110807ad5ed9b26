-- `passes::somewhere` makes the two tests of `valid_somewhere`.
use Rattle.model.specs.Item.{valid_somewhere}
use Rattle.convert.proofs.passes.somewhere.Goals as goal

pub returns : goal.returns
unfolding valid_somewhere
returns c = rw (c.valid-valid.ensures, c.from-page.ensures, c.u16_at.ensures)
