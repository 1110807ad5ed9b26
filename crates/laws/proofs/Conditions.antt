-- Names for the conditions of rows 15, 19 and 23 of a call on the state, as its table has them.
use Prim.Native.Nat.{ℕ}
use mathlib.Core.Bool.{Bool}
use mathlib.Core.List.{List}
use lib.Dec.{ltb}
use Rattle.model.specs.Item.{image_lsn}
use Rattle.model.specs.Repair.{walk_of, state_view, is_broken, is_below}
use Rattle.model.specs.State.{frame_bytes, holder}
use Rattle.model.specs.declared.{geometry.Geometry.Geometry, state.State.State}

-- 15: the page lsn in page p's frame is above the durable count
abbrev pub not_durable : List ℕ → State → ℕ → Bool
not_durable m s p = ltb s.durable (image_lsn (frame_bytes m (holder s p)))

-- 19: the walk for page p breaks
abbrev pub chain_broken : Geometry → List ℕ → State → ℕ → Bool
chain_broken g v s p = is_broken (walk_of g p (state_view g v s p)).stop

-- 23: the walk for page p goes below the run
abbrev pub chain_below : Geometry → List ℕ → State → ℕ → Bool
chain_below g v s p = is_below (walk_of g p (state_view g v s p)).stop
