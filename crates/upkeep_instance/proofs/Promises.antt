-- Upkeep's other promises at the same geometry: P 1, B 2, L 4, N 4. T1: after the three calls of `Comes` it is idle, and a
-- Change is refused for nothing; what it advised before was done; the slot that it named was the last of the two. T3:
-- its refreshing put makes the log longer and leaves the text; its Load into frame 2 leaves frame 1.
use Prim.Native.Nat.{ℕ, ◌≤◌}
use mathlib.Core.Path.{◌≡◌, refl}
use mathlib.Core.Logic.{◌≢◌}
use mathlib.Core.Bool.{true}
use mathlib.Core.List.{List, [], ◌∷◌, ◌++◌}
use native.Mathlib.Omega.{arith}
use lib.Dec.{eqb→eq}
use lib.ListN.{length}
use Rattle.model.specs.Tables.{within}
use Rattle.model.specs.Geometry.{ring, geometry_of}
use Rattle.model.specs.State.{frame_count, well_formed}
use Rattle.model.specs.Outcome.{refusal_of}
use Rattle.model.specs.Calls.{outcome_of}
use Rattle.model.specs.History.{on, perform, all_allowed}
use Rattle.model.specs.Claim.{History, Legal, fresh, reached}
use Rattle.model.specs.declared.{geometry.Heading.TheVariants.Second, answer.Answer.TheVariants.Nothing}
use Rattle.model.specs.declared.state.State.{State}
use Rattle.upkeep_policy.specs.Upkeep.{idle, make, free_slot, upkeep_of}
use Rattle.upkeep_policy.specs.UpkeepClaim.{NotFull, NotBlocked, extended, all_of, SameText, SameFrame}
use Rattle.upkeep_theory.proofs.Holds.{upkeep-holds}
use Rattle.cases.specs.Opened.{opened}
use Rattle.cases.specs.Build.{memory_in}
use Rattle.cases.specs.Calls.{load, backup, note}
use Rattle.cases.specs.Prologues.{page_written}
use Rattle.cases.specs.Rings.{put}
use Rattle.cases.specs.Worked.{history_with, makes}
use Rattle.cases.proofs.Tests.{holds, live, state_in}
use Rattle.upkeep_instance.proofs.Advised.{idle-is}
use Rattle.upkeep_instance.proofs.Comes.{cut_back, followed, legal}

abbrev memory_of : History → List ℕ
memory_of h = memory_in (reached h).power

abbrev state_for : History → State
state_for h = state_in (reached h).power

-- ---- T1: at rest

abbrev pub rested : History
rested = history_with Second 1 2 4 4 (cut_back ++ (perform (load 1 2) ∷ perform (backup 1 2) ∷ perform note ∷ []))

rested-legal : Legal rested
unfolding opened
rested-legal =
    record { make = eqb→eq (makes rested) 0 tt; events = holds (all_allowed (fresh rested) rested.events) tt }

rested-on : (reached rested).power ≡ on (memory_of rested) (state_for rested)
unfolding opened
rested-on = live (reached rested).power tt

is-idle : upkeep_of (reached rested).volume (memory_of rested) (state_for rested) 2 ≡ idle
unfolding opened
is-idle = idle-is (upkeep_of (reached rested).volume (memory_of rested) (state_for rested) 2) tt

turns : ring (geometry_of (reached rested).volume) ≡ true
unfolding opened
turns = holds (ring (geometry_of (reached rested).volume)) tt

four-notes : (geometry_of (reached rested).volume).notes ≡ 4
unfolding opened
four-notes = eqb→eq (geometry_of (reached rested).volume).notes 4 tt

numbers : ((state_for rested).durable ≡ 4) × ((state_for rested).notes ≡ 5)
unfolding opened
numbers = (eqb→eq (state_for rested).durable 4 tt, eqb→eq (state_for rested).notes 5 tt)

abbrev next : ℕ
next = refusal_of (outcome_of (put 5) (reached rested).volume (memory_of rested) (state_for rested)).answer

pub not_full : NotFull next
not_full =
    upkeep-holds.idle_is_safe (reached rested).volume (memory_of rested) (state_for rested) 2 turns
    (omega (arith, four-notes)) (omega (arith, numbers.0)) (omega (arith, numbers.1)) is-idle (put 5) refl

pub not-blocked : NotBlocked next
not-blocked =
    upkeep-holds.idle_is_free rested rested-legal (memory_of rested) (state_for rested) rested-on 2 is-idle (put 5) refl

-- ---- T1: what is advised

is-on : (reached followed).power ≡ on (memory_of followed) (state_for followed)
unfolding opened
is-on = live (reached followed).power tt

advised : upkeep_of (reached followed).volume (memory_of followed) (state_for followed) 2 ≡ make (load 1 2)
unfolding opened
advised = refl

notes-four : (geometry_of (reached followed).volume).notes ≡ 4
unfolding opened
notes-four = eqb→eq (geometry_of (reached followed).volume).notes 4 tt

-- the second frame is the last
last_frame : within (frame_count (length (memory_of followed))) 2 ≡ true
unfolding opened
last_frame = holds (within (frame_count (length (memory_of followed))) 2) tt

pub done : (refusal_of (outcome_of (load 1 2) (reached followed).volume (memory_of followed) (state_for followed)).answer ≡ 0)
    × ((outcome_of (load 1 2) (reached followed).volume (memory_of followed) (state_for followed)).answer ≢ Nothing)
done =
    upkeep-holds.advice_is_done followed legal (memory_of followed) (state_for followed) is-on (omega (arith, notes-four)) 2
    last_frame (load 1 2) advised

-- ---- a slot is left: the second, the other being the noted backup's

formed : well_formed (geometry_of (reached followed).volume) 2 (state_for followed) ≡ true
unfolding opened
formed = holds (well_formed (geometry_of (reached followed).volume) 2 (state_for followed)) tt

shape : ((geometry_of (reached followed).volume).pages ≡ 1) × ((geometry_of (reached followed).volume).slots ≡ 2)
    × (length (state_for followed).index ≡ 64)
unfolding opened
shape = (
  eqb→eq (geometry_of (reached followed).volume).pages 1 tt,
  eqb→eq (geometry_of (reached followed).volume).slots 2 tt,
  eqb→eq (length (state_for followed).index) 64 tt,
)

pub slot-left : (1 ≤ free_slot (geometry_of (reached followed).volume) (state_for followed))
    × (free_slot (geometry_of (reached followed).volume) (state_for followed) ≤ (geometry_of (reached followed).volume).slots)
slot-left =
    upkeep-holds.slot_left (reached followed).volume 2 (state_for followed) formed (omega (arith, shape.0)) shape.2
    (omega (arith, shape.0, shape.1))

pub the_second : free_slot (geometry_of (reached followed).volume) (state_for followed) ≡ 2
unfolding opened
the_second = eqb→eq (free_slot (geometry_of (reached followed).volume) (state_for followed)) 2 tt

-- ---- T3: the refreshing put

abbrev pub backups : History
backups =
    history_with Second 1 2 4 4
    (page_written 2 ++ (perform (backup 1 1) ∷ perform note ∷ perform (backup 1 2) ∷ perform note ∷ []))

backups-legal : Legal backups
unfolding opened
backups-legal =
    record { make = eqb→eq (makes backups) 0 tt; events = holds (all_allowed (fresh backups) backups.events) tt }

backups-on : (reached backups).power ≡ on (memory_of backups) (state_for backups)
unfolding opened
backups-on = live (reached backups).power tt

refreshes : upkeep_of (reached backups).volume (memory_of backups) (state_for backups) 2 ≡ make (put 7)
unfolding opened
refreshes = refl

pub same_text : SameText backups (extended backups (perform (put 7) ∷ [])) 1
same_text =
    upkeep-holds.text_stays backups backups-legal (memory_of backups) (state_for backups) backups-on 2 (put 7) refreshes 1
    (omega arith) (omega arith)

-- though there is one change more
pub one_more : (length (all_of backups) ≡ 1) × (length (all_of (extended backups (perform (put 7) ∷ []))) ≡ 2)
unfolding opened
one_more =
    (eqb→eq (length (all_of backups)) 1 tt, eqb→eq (length (all_of (extended backups (perform (put 7) ∷ [])))) 2 tt)

-- ---- T3: the other frame

frames-two : frame_count (length (memory_of followed)) ≡ 2
unfolding opened
frames-two = eqb→eq (frame_count (length (memory_of followed))) 2 tt

pub same-frame : SameFrame (memory_of followed) (state_for followed)
    (outcome_of (load 1 2) (reached followed).volume (memory_of followed) (state_for followed)).memory
    (outcome_of (load 1 2) (reached followed).volume (memory_of followed) (state_for followed)).state 1
same-frame =
    upkeep-holds.frames_stay followed legal (memory_of followed) (state_for followed) is-on 2 (load 1 2) advised 1
    (omega arith) (omega (arith, frames-two)) (λ e. omega (arith, e))
