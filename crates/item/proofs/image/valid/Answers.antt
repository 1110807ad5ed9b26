-- `image::valid` makes the three tests of `valid_image`.
use Rattle.model.specs.Item.{valid_image}
use Rattle.item.proofs.image.valid.Goals as goal

pub returns : goal.returns
unfolding valid_image
returns c = rw (c.sealed.ensures, c.from-page.ensures, c.u16_at.ensures, c.u16_at-zero.ensures)
