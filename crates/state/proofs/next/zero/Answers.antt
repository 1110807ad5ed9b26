-- `state::next::zero` meets its contract.
use Rattle.model.specs.Index.{empty_index}
use Rattle.model.specs.State.{zero_state}
use mathlib.Core.Path.{refl}
use Rattle.state.proofs.next.zero.Goals as goal

pub returns : goal.returns
unfolding zero_state empty_index
returns c = refl
