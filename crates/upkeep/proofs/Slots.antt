-- The search for a free slot.
use mathlib.Core.Path.{◌≡◌, refl}
use mathlib.Core.Bool.{true, not}
use mathlib.Core.List.{List}
use Prim.Native.Nat.{ℕ, ◌≤◌}
use Rattle.laws.proofs.Places.{valid-facts}
use Rattle.model.specs.Geometry.{geometry_of, valid_volume}
use Rattle.model.specs.Index.{slot_used}
use Rattle.model.specs.Passes.{first_from}
use Rattle.upkeep_policy.specs.Upkeep.{free_slot}
use Rattle.model.specs.declared.{geometry.Geometry.Geometry, state.State.State}

pub slots-few : (v : List ℕ) (g : Geometry) → valid_volume v ≡ true → g ≡ geometry_of v → g.slots ≤ 128
slots-few v g valid eg = rw eg (valid-facts v valid).b-high

pub free-is : (g : Geometry) (s : State) → first_from g.slots (λ k. not (slot_used k s.index)) 1 ≡ free_slot g s
unfolding free_slot
free-is g s = refl
