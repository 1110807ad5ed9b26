-- States at the largest number, and page health at the first durable record: what the theorems give there.
use Prim.Native.Nat.{ℕ}
use mathlib.Core.Path.{◌≡◌, refl}
use mathlib.Core.Bool.{true, false}
use mathlib.Core.List.{List, []}
use native.Mathlib.Omega.{arith}
use lib.Dec.{eqb→eq}
use lib.ListN.{length, replicate}
use Rattle.model.specs.Geometry.{empty_volume, geometry_of}
use Rattle.model.specs.Repair.{View, repair_of}
use Rattle.model.specs.State.{frame_count, last_number, well_formed}
use Rattle.model.specs.Calls.{outcome_of}
use Rattle.model.specs.Demand1.{Arrays}
use Rattle.model.specs.Health.{Untouched}
use Rattle.model.specs.WellFormed.{StaysFormed}
use Rattle.model.specs.declared.{geometry.Heading.TheVariants.Second, state.State.State}
use Rattle.model.specs.declared.{answer.Class.TheVariants.Good}
use Rattle.cases.specs.Opened.{opened}
use Rattle.cases.specs.Build.{small, image}
use Rattle.cases.specs.Table.{record1, body1}
use Rattle.cases.specs.States.{entry, none, frame, state_with}
use Rattle.cases.specs.Rings.{put}
use Rattle.laws.proofs.StaysFormed.{keeps-well-formed}
use Rattle.laws.proofs.Health.{health}
use Rattle.cases.proofs.Tests.{holds}
use Rattle.model.specs.Types.{None}

-- ---- the last number of a ring

abbrev ring_volume : List ℕ
ring_volume = empty_volume Second 2 2 2 2

abbrev frames : List ℕ
frames = replicate 1536 0

-- one number is left; page 1 is in a frame
abbrev state_one_left : State
state_one_left = state_with 4294967294 0 0 None (frame 1 true) (frame 0 false) (entry 1 1 0 0 0) none none

one_left : well_formed (geometry_of ring_volume) (frame_count (length frames)) state_one_left ≡ true
unfolding opened
one_left = holds (well_formed (geometry_of ring_volume) (frame_count (length frames)) state_one_left) tt

arrays : Arrays state_one_left
arrays = record { frames = refl; index = refl }

-- a Change takes it, and the state is still well formed
pub last_taken : last_number (outcome_of (put 5) ring_volume frames state_one_left).state ≡ 4294967295
unfolding opened
last_taken = eqb→eq (last_number (outcome_of (put 5) ring_volume frames state_one_left).state) 4294967295 tt

pub still_formed : StaysFormed (put 5) ring_volume frames state_one_left
still_formed = keeps-well-formed (put 5) refl ring_volume frames state_one_left arrays one_left

-- ---- the first durable record

-- page 1 with its format durable and its image written; with none durable `class: Good with no durable record, ..` of
-- `cases` shows the claim false
abbrev first_view : View
first_view =
    record { own = image 1 1 body1; durable = 1; written = 0; backup = 0; copy = []; log = λ n. record1; first = 1 }

first_good : (repair_of small 1 first_view).class ≡ Good
unfolding opened
first_good = refl

pub first-untouched : Untouched (repair_of small 1 first_view)
first-untouched = (health.view small 1 first_view (omega arith)).0 first_good
