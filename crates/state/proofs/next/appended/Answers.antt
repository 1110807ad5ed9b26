-- `state::next::appended` meets its contract.
use Rattle.model.specs.Effects.{appended_state}
use mathlib.Core.Path.{refl}
use Rattle.state.proofs.next.appended.Goals as goal

pub returns : goal.returns
unfolding appended_state
returns c = refl
