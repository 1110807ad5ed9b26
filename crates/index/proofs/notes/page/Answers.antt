-- `index::notes::page` meets its contract: the field is read from the record's bytes.
use mathlib.Core.Path.{ap, ◌∙◌}
use Rattle.model.specs.Bytes.{field}
use Rattle.model.specs.Item.{record_of}
use Rattle.index.proofs.notes.page.Goals as goal

pub returns : goal.returns
unfolding record_of
returns c = c.u16_at.ensures ∙ ap (field 2 8) c.«record».ensures
