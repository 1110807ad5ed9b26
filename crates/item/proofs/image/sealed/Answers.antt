-- `image::sealed` judges by the sum that the tag names.
use mathlib.Core.Path.{sym, ◌∙◌}
use native.Mathlib.Omega.{arith}
use Rattle.laws.proofs.Items.{by-words, by_bytes, by-either}
use Rattle.item.proofs.image.sealed.Goals as goal

pub returns-then-g-eq-FIRST_TAG : goal.returns-then-g-eq-FIRST_TAG
returns-then-g-eq-FIRST_TAG c = c.holds.ensures ∙ sym (by-words _ _ c.if-g-eq-FIRST_TAG.true)

pub returns-then-g-eq-SECOND_TAG : goal.returns-then-g-eq-SECOND_TAG
returns-then-g-eq-SECOND_TAG c = c.holds-then-g-eq-SECOND_TAG.ensures ∙ sym (by_bytes _ _ c.if-g-eq-SECOND_TAG.true)

pub returns : goal.returns
returns c = rw (c.holds-2.ensures, c.holds-3.ensures) (sym (by-either _ _ (λ e. omega arith) (λ e. omega arith)))
