-- The refusals of Begin and Change: the code's tests come to the rows of their tables.
use mathlib.Core.Path.{◌≡◌, ◌∙◌}
use mathlib.Core.List.{List, []}
use Prim.Native.Nat.{ℕ}
use lib.ListN.{length}
use Rattle.state.proofs.Fits.{refusal-first, refusal-last}
use Rattle.model.specs.Tables.{first_of}
use Rattle.model.specs.Geometry.{geometry_of}
use Rattle.model.specs.State.{frame_count}
use Rattle.model.specs.Refusals.{state_rows, begin_rows, change_rows, begin_tail, change_tail}
use Rattle.model.specs.declared.{geometry.Geometry.Geometry, change.Change.Change, state.State.State}

-- the rows 1 and 2, then those of the call's own
module _ (v m : List ℕ) (s : State) (n : ℕ) (e : n ≡ first_of (state_rows v m s [])) where
  pub begin-first : (page frame : ℕ) → (n ≡ 0 → ⊥) → n ≡ first_of (begin_rows v m s page frame)
  unfolding begin_rows
  begin-first page frame = refusal-first v m s (begin_tail (geometry_of v) v (frame_count (length m)) s page frame) n e

  pub begin-rows : (g : Geometry) (size count page frame r : ℕ) → n ≡ 0 → g ≡ geometry_of v → count ≡ frame_count size
      → r ≡ first_of (begin_tail g v count s page frame)
      → length m ≡ size
      → r ≡ first_of (begin_rows v m s page frame)
  unfolding begin_rows
  begin-rows g size count page frame r z eg ec er en =
      refusal-last v m s (begin_tail (geometry_of v) v (frame_count (length m)) s page frame) n r e z (er ∙ rw (ec, eg, ← en))

  pub change-first : (page : ℕ) (c : Change) → (n ≡ 0 → ⊥) → n ≡ first_of (change_rows v m s page c)
  unfolding change_rows
  change-first page c = refusal-first v m s (change_tail (geometry_of v) v s page c) n e

  pub change-rows : (g : Geometry) (page : ℕ) (c : Change) (r : ℕ) → n ≡ 0 → g ≡ geometry_of v → r ≡ first_of (change_tail g v s page c)
      → r ≡ first_of (change_rows v m s page c)
  unfolding change_rows
  change-rows g page c r z eg er = refusal-last v m s (change_tail (geometry_of v) v s page c) n r e z (er ∙ rw eg)
