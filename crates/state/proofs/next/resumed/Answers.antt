-- `state::next::resumed` meets its contract: what the scan does not give is zero.
use Rattle.model.specs.State.{zero_state}
use Rattle.state.proofs.next.resumed.Goals as goal

pub returns : goal.returns
unfolding zero_state
returns c = rw c.zero.ensures
