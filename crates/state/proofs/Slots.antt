-- The numbers of log records and notes, and their slots: none goes above the last number, and each slot lies in a valid volume.
use mathlib.Core.Path.{◌≡◌, sym, ◌∙◌}
use mathlib.Core.Bool.{true}
use mathlib.Core.List.{List, []}
pub use Rattle.volume.proofs.Slots.{records-some, records-few, notes-few, most-high, most-notes-high, record-fits, note-fits}
use Prim.Native.Nat.{ℕ}
use lib.ListN.{length, replicate, length-replicate}
use Rattle.laws.proofs.WellFormed.{ready}
use Rattle.model.specs.Tables.{first_of}
use Rattle.model.specs.Geometry.{valid_volume}
use Rattle.model.specs.Refusals.{state_rows}
use Rattle.model.specs.declared.state.State.{State}

-- where the rows 1 and 2 refuse nothing the volume is valid
pub valid-with : (v m : List ℕ) (s : State) (n : ℕ) → n ≡ first_of (state_rows v m s []) → n ≡ 0 → valid_volume v ≡ true
valid-with v m s n e z = (ready v m s [] (sym e ∙ z)).volume

-- whatever the memory holds
pub valid-volume : (v : List ℕ) (s : State) (size n : ℕ) → ((m : List ℕ) → length m ≡ size → n ≡ first_of (state_rows v m s [])) → n ≡ 0
    → valid_volume v ≡ true
valid-volume v s size n h = valid-with v (replicate size 0) s n (h (replicate size 0) (length-replicate size 0))

-- of a memory they look at the size alone
pub any_memory : (v m : List ℕ) (s : State) (n : ℕ) → n ≡ first_of (state_rows v m s []) → (w : List ℕ) → length w ≡ length m
    → n ≡ first_of (state_rows v w s [])
any_memory v m s n e w l = e ∙ rw l
