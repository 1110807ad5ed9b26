-- `archive_read::holds_images` meets its contract: its tests are those of `valid_area`.
use mathlib.Core.Path.{refl}
use Rattle.archive_read.proofs.holds_images.Goals as goal

pub returns : goal.returns
returns c = refl
