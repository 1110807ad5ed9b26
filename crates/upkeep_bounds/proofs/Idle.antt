-- T1 at its bounds. Idle is safe: N 2, one number left of each kind. A slot is left: B is P + 1, and one is in use. Idle
-- is free, and what is advised is done: the history of two pages before its last change, and after it.
use Prim.Native.Nat.{ℕ, ◌≤◌}
use mathlib.Core.Path.{◌≡◌, refl}
use mathlib.Core.Logic.{◌≢◌}
use mathlib.Core.Bool.{true, false}
use mathlib.Core.List.{List}
use native.Mathlib.Omega.{arith}
use lib.Dec.{T, eqb→eq}
use lib.ListN.{length}
use Rattle.model.specs.Tables.{within}
use Rattle.model.specs.Geometry.{ring, geometry_of, empty_volume}
use Rattle.model.specs.State.{frame_count, well_formed}
use Rattle.model.specs.Outcome.{refusal_of}
use Rattle.model.specs.Calls.{outcome_of}
use Rattle.model.specs.Claim.{reached}
use Rattle.model.specs.declared.{geometry.Heading.TheVariants.Second, answer.Answer.TheVariants.Nothing}
use Rattle.model.specs.declared.{state.State.State}
use Rattle.upkeep_policy.specs.Upkeep.{Advice, idle, stuck, make, is_idle, free_slot, upkeep_of}
use Rattle.upkeep_policy.specs.UpkeepClaim.{NotFull, NotBlocked, NumbersLeft}
use Rattle.upkeep_theory.proofs.Holds.{upkeep-holds}
use Rattle.cases.specs.Opened.{opened}
use Rattle.cases.specs.Build.{memory, memory_in}
use Rattle.cases.specs.Calls.{force}
use Rattle.cases.specs.Prologues.{page_backed_up}
use Rattle.cases.specs.Rings.{reach_ring, put}
use Rattle.cases.specs.States.{entry, none, frame, state_with}
use Rattle.cases.proofs.Tests.{holds, state_in}
use Rattle.upkeep_bounds.proofs.TwoPages.{two_pages, quiet, quiet-legal, quiet-on, legal, is-on}
use Rattle.model.specs.Types.{None}

is-idle : (a : Advice) → T (is_idle a) → a ≡ idle
is-idle idle t = refl
is-idle (stuck p) t = absurd t
is-idle (make c) t = absurd t

-- ---- idle is safe

abbrev ring_volume : List ℕ
ring_volume = empty_volume Second 1 1 2 2

-- page 1 is in a frame and clean; one number is left for a record, and one for a note
abbrev state_one_left : State
state_one_left = state_with 4294967294 0 4294967294 None (frame 1 false) (frame 0 false) (entry 1 1 0 0 0) none none

a-ring : ring (geometry_of ring_volume) ≡ true
unfolding opened
a-ring = holds (ring (geometry_of ring_volume)) tt

two-notes : (geometry_of ring_volume).notes ≡ 2
unfolding opened
two-notes = eqb→eq (geometry_of ring_volume).notes 2 tt

at_rest : upkeep_of ring_volume (memory 2) state_one_left 2 ≡ idle
unfolding opened
at_rest = is-idle (upkeep_of ring_volume (memory 2) state_one_left 2) tt

safe : NotFull (refusal_of (outcome_of (put 5) ring_volume (memory 2) state_one_left).answer)
safe =
    upkeep-holds.idle_is_safe ring_volume (memory 2) state_one_left 2 a-ring (omega (arith, two-notes)) (omega arith) (omega arith) at_rest
    (put 5) refl

pub taken : (refusal_of (outcome_of (put 5) ring_volume (memory 2) state_one_left).answer ≢ 11)
    × (refusal_of (outcome_of (put 5) ring_volume (memory 2) state_one_left).answer ≢ 12)
    × (refusal_of (outcome_of (put 5) ring_volume (memory 2) state_one_left).answer ≢ 13)
    × (refusal_of (outcome_of (put 5) ring_volume (memory 2) state_one_left).answer ≢ 14)
taken = (safe.not-pending, safe.not-log, safe.not-noting, safe.not-notes)

-- the numbers that T2 asks for, of two pages with W 1, none to spare
pub numbers-left : NumbersLeft two_pages (state_with 4294967292 0 4294967290 None (frame 0 false) (frame 0 false) none none none) 1
numbers-left = record { durable = omega arith; notes = omega arith }

-- ---- a slot is left

abbrev backed : State
backed = state_in (reach_ring 1 2 4 4 (page_backed_up 2)).power

abbrev backed_volume : List ℕ
backed_volume = (reach_ring 1 2 4 4 (page_backed_up 2)).volume

formed : well_formed (geometry_of backed_volume) 2 backed ≡ true
unfolding opened
formed = holds (well_formed (geometry_of backed_volume) 2 backed) tt

counts : ((geometry_of backed_volume).pages ≡ 1) × ((geometry_of backed_volume).slots ≡ 2) × (length backed.index ≡ 64)
unfolding opened
counts = (eqb→eq (geometry_of backed_volume).pages 1 tt, eqb→eq (geometry_of backed_volume).slots 2 tt, eqb→eq (length backed.index) 64 tt)

pub one-slot : (1 ≤ free_slot (geometry_of backed_volume) backed) × (free_slot (geometry_of backed_volume) backed ≤ (geometry_of backed_volume).slots)
one-slot =
    upkeep-holds.slot_left backed_volume 2 backed formed (omega (arith, counts.0)) counts.2 (omega (arith, counts.0, counts.1))

-- ---- idle is free

abbrev quiet_state : State
quiet_state = state_in (reached quiet).power

abbrev quiet_memory : List ℕ
quiet_memory = memory_in (reached quiet).power

quiet-idle : upkeep_of (reached quiet).volume quiet_memory quiet_state 3 ≡ idle
unfolding opened
quiet-idle = is-idle (upkeep_of (reached quiet).volume quiet_memory quiet_state 3) tt

free : NotBlocked (refusal_of (outcome_of (put 4) (reached quiet).volume quiet_memory quiet_state).answer)
free = upkeep-holds.idle_is_free quiet quiet-legal quiet_memory quiet_state quiet-on 3 quiet-idle (put 4) refl

pub not-blocked : (refusal_of (outcome_of (put 4) (reached quiet).volume quiet_memory quiet_state).answer ≢ 10)
    × (refusal_of (outcome_of (put 4) (reached quiet).volume quiet_memory quiet_state).answer ≢ 15)
not-blocked = (free.not-blocked, free.not-early)

-- ---- what is advised is done

abbrev s : State
s = state_in (reached two_pages).power

abbrev m : List ℕ
m = memory_in (reached two_pages).power

-- the last frame, 3, is upkeep's
pub advised : upkeep_of (reached two_pages).volume m s 3 ≡ make force
unfolding opened
advised = refl

five-notes : (geometry_of (reached two_pages).volume).notes ≡ 5
unfolding opened
five-notes = eqb→eq (geometry_of (reached two_pages).volume).notes 5 tt

a-frame : within (frame_count (length m)) 3 ≡ true
unfolding opened
a-frame = holds (within (frame_count (length m)) 3) tt

pub done : (refusal_of (outcome_of force (reached two_pages).volume m s).answer ≡ 0)
    × ((outcome_of force (reached two_pages).volume m s).answer ≢ Nothing)
done = upkeep-holds.advice_is_done two_pages legal m s is-on (omega (arith, five-notes)) 3 a-frame force advised
