-- `repair::rebuild::previous` meets its contract: the field is read from the record's part.
use Rattle.model.specs.Item.{record_of}
use Rattle.repair.proofs.rebuild.previous.Goals as goal

pub returns : goal.returns
unfolding record_of
returns c = rw (c.u32_at.ensures, c.«record».ensures)
