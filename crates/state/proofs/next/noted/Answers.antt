-- `state::next::noted` meets its contract.
use Rattle.model.specs.Effects.{noted_state}
use Rattle.state.proofs.next.noted.Goals as goal

pub returns : goal.returns
unfolding noted_state
returns c = cc
