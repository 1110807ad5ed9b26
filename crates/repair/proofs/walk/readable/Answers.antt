-- `repair::walk::readable` meets its contract: its tests are those of `chain_record`, on the fields that were read.
use Rattle.model.specs.Repair.{chain_record}
use Rattle.repair.proofs.walk.readable.Goals as goal

pub returns : goal.returns
unfolding chain_record
returns c = rw (c.layout.ensures, c.holds.ensures, c.from-owner.ensures, c.read-e.ensures)
