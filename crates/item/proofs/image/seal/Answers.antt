-- `image::seal` sets the sum that the tag names.
use mathlib.Core.Path.{sym, ◌∙◌}
use Rattle.laws.proofs.Items.{words-set, bytes-set}
use Rattle.item.proofs.image.seal.Goals as goal

-- src/image.rt:57:1
pub returns-then-g-eq-FIRST_TAG : goal.returns-then-g-eq-FIRST_TAG
returns-then-g-eq-FIRST_TAG c =
    let a = c.args in
    c.set.ensures ∙ sym (words-set a.g a.x.now c.if-g-eq-FIRST_TAG.true)

-- src/image.rt:57:1
pub returns-else-g-eq-FIRST_TAG : goal.returns-else-g-eq-FIRST_TAG
returns-else-g-eq-FIRST_TAG c =
    let a = c.args in
    c.set-else-g-eq-FIRST_TAG.ensures ∙ sym (bytes-set a.g a.x.now c.if-g-eq-FIRST_TAG.false)
