-- `volume::memory::memory` meets its contract.
use Rattle.model.specs.State.{valid_memory}
use Rattle.volume.proofs.memory.memory.Goals as goal

pub returns : goal.returns
unfolding valid_memory
returns c = rw c.frames-count.ensures
