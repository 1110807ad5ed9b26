-- `repair::rebuild::copy_body` meets its contract: the part that is copied is the image's body.
use Rattle.model.specs.Bytes.{part}
use Rattle.repair.proofs.rebuild.copy_body.Goals as goal

pub returns : goal.returns
unfolding part
returns c = c.copy.ensures
