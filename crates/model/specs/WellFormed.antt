-- Which calls keep a well-formed state well formed (document 01: sound), on any volume and memory, in a history or not:
-- all but Force and Note. A Force goes by the page that the oldest pending record names as it lies in memory, and a
-- Note by the page and lsn of the pending note: in a history these agree with the index, elsewhere they need not. And
-- that a Restart gives a well-formed state. The values of the types are proved in the crate `laws`.
use Rattle.std.specs.Prelude.{ℕ, length}
use mathlib.Core.{Path.◌≡◌, Bool.Bool, Bool.true, Bool.false, Bool.◌||◌, List.List}
use Rattle.model.specs.{Geometry.geometry_of, Bytes.Octets, Outcome.volume_after, Restart.restart_of, Demand1.Arrays}
use Rattle.model.specs.State.{frame_count, well_formed}
use Rattle.model.specs.Calls.{Call, outcome_of, is_call}
use Rattle.model.specs.Types.{State}

-- the call enters in the index what it stores: Force and Note
abbrev pub enters_index : Call → Bool
enters_index c = is_call 6 c || is_call 9 c

-- the state that a call leaves, judged by the volume that it leaves and the frames of the memory lent
pub record StaysFormed (c : Call) (v m : List ℕ) (s : State) : Type 0 where
  pub arrays : Arrays (outcome_of c v m s).state
  pub state : well_formed (geometry_of (volume_after v (outcome_of c v m s).stored)) (frame_count (length m))
      (outcome_of c v m s).state ≡ true

abbrev pub KeepsWellFormed : Type 0
KeepsWellFormed =
    (c : Call) → enters_index c ≡ false → (v m : List ℕ) (s : State) → Arrays s
    → well_formed (geometry_of v) (frame_count (length m)) s ≡ true
    → StaysFormed c v m s

-- the state that a Restart gives, refused or not, judged by the volume and the memory lent
pub record RestartFormed (v m : List ℕ) : Type 0 where
  pub arrays : Arrays (restart_of v m).state
  pub state : well_formed (geometry_of v) (frame_count (length m)) (restart_of v m).state ≡ true

-- On every volume, in a history or not, a ring too. The volume is of bytes: a ring's counts are numbers of four of
-- them, and only so are they at most the largest number.
abbrev pub GivesWellFormed : Type 0
GivesWellFormed = (v m : List ℕ) → Octets v → RestartFormed v m
