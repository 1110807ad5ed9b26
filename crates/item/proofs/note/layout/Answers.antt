-- `note::layout` makes the tests of `note_layout`.
use mathlib.Core.Path.{refl}
use Rattle.model.specs.Item.{note_layout}
use Rattle.item.proofs.note.layout.Goals as goal

pub returns : goal.returns
unfolding note_layout
returns c = refl
