-- `archive_read::refusal` meets its contract: the two rows, in order.
use mathlib.Core.Path.{◌≡◌, sym, ◌∙◌}
use mathlib.Core.Bool.{true}
use Rattle.reports.specs.Archive.{valid_area}
use Rattle.archive_read.proofs.Outcomes.{area-images, row-area, row-archive, row-none}
use borrow.Author.Rules.{rules}
use Rattle.archive_read.proofs.refusal.Goals.{Else-not-holds_images}
use Rattle.archive_read.proofs.refusal.Goals as goal

-- the area has room for images
images : (c : goal.Else-not-holds_images) → valid_area c.args.size ≡ true
images c = sym c.holds_images.ensures ∙ c.if-not-holds_images.false

pub returns-then-not-holds_images : goal.returns-then-not-holds_images
returns-then-not-holds_images c = row-area _ _ (sym c.holds_images.ensures ∙ c.if-not-holds_images.true)

pub overflow_cast-size : goal.overflow_cast-size
overflow_cast-size c = let i = area-images c.args.size (images c) in search rules

pub returns-then-not-valid : goal.returns-then-not-valid
returns-then-not-valid c = row-archive _ _ (images (goal.at.returns-then-not-valid c).Else-not-holds_images) (sym c.valid.ensures ∙ c.if-not-valid.true)

pub returns : goal.returns
returns c = row-none _ _ (images (goal.at.returns c).Else-not-holds_images) (sym c.valid.ensures ∙ c.if-not-valid.false)
