-- What a computed test shows, and the memory and the state of a machine that is on.
use mathlib.Core.Path.{◌≡◌, refl}
use mathlib.Core.Bool.{Bool, true, false, not}
use lib.Dec.{T}
use Rattle.model.specs.State.{zero_state}
use Rattle.model.specs.History.{Power, off, on, is_on}
use Rattle.model.specs.declared.state.State.{State}
use Rattle.cases.specs.Build.{memory_in}

pub holds : (b : Bool) → T b → b ≡ true
holds true t = refl
holds false t = absurd t

pub fails : (b : Bool) → T (not b) → b ≡ false
fails true t = absurd t
fails false t = refl

-- ---- a machine that is on

abbrev pub state_in : Power → State
state_in off = zero_state
state_in (on m s) = s

pub live : (p : Power) → T (is_on p) → p ≡ on (memory_in p) (state_in p)
live off t = absurd t
live (on m s) t = refl
