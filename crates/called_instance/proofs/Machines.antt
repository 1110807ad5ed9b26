-- The machines that the claims for C are applied to, each reached by a legal history: P 1, B 1, L 2, N 2, one frame.
-- Record 1 is noted as backed up, so that the third record takes its slot.
use Prim.Native.Nat.{ℕ}
use mathlib.Core.Path.{◌≡◌}
use mathlib.Core.List.{List, [], ◌∷◌, ◌++◌}
use lib.Dec.{eqb→eq}
use lib.ListN.{replicate}
use Rattle.model.specs.History.{on, perform, all_allowed}
use Rattle.model.specs.Claim.{History, Legal, fresh, reached}
use Rattle.model.specs.declared.{geometry.Heading.TheVariants.Second, state.State.State}
use Rattle.face.specs.Numbers.{frame_numbers, entry_numbers, numbers_of, frames_of, entries_of, state_of, fits}
use Rattle.face.specs.Face.{face_of, restarted_of}
use Rattle.cases.specs.Opened.{opened}
use Rattle.cases.specs.Build.{memory_in}
use Rattle.cases.specs.Calls.{force, backup, release, note}
use Rattle.cases.specs.Prologues.{page_forced}
use Rattle.cases.specs.Rings.{put, turned, needed}
use Rattle.cases.specs.Worked.{history_with, makes}
use Rattle.cases.proofs.Tests.{holds, live, state_in}

-- the face's definitions opened with the others
unfoldable pub face_opened : Unit {0}
unfolding opened frame_numbers entry_numbers numbers_of frames_of entries_of state_of fits face_of restarted_of
face_opened = tt

-- numbers and a report that were lent, so that what is left of them is seen
abbrev pub lent_report : List ℕ
lent_report = replicate 5 9

abbrev pub volume_of : History → List ℕ
volume_of h = (reached h).volume

abbrev pub memory_of : History → List ℕ
memory_of h = memory_in (reached h).power

abbrev pub state_for : History → State
state_for h = state_in (reached h).power

abbrev pub numbers_for : History → List ℕ
numbers_for h = numbers_of (state_for h)

-- ---- record 3 is pending, and slot 1 still holds record 1

abbrev pub waiting : History
waiting =
    history_with Second 1 1 2 2
    (page_forced 1
    ++ (perform (backup 1 1) ∷ perform (put 2) ∷ perform force ∷ perform note ∷ perform (put 3) ∷ []))

pub waiting-legal : Legal waiting
unfolding opened
waiting-legal =
    record { make = eqb→eq (makes waiting) 0 tt; events = holds (all_allowed (fresh waiting) waiting.events) tt }

pub waiting-on : (reached waiting).power ≡ on (memory_of waiting) (state_for waiting)
unfolding opened
waiting-on = live (reached waiting).power tt

-- ---- it is forced, and the next record would displace record 2, which no backup is above

abbrev pub full : History
full = history_with Second 1 1 2 2 turned

pub full-legal : Legal full
unfolding opened
full-legal = record { make = eqb→eq (makes full) 0 tt; events = holds (all_allowed (fresh full) full.events) tt }

pub full-on : (reached full).power ≡ on (memory_of full) (state_for full)
unfolding opened
full-on = live (reached full).power tt

-- ---- page 1 was backed up at record 2 and let go after record 3

abbrev pub released : History
released =
    history_with Second 1 1 2 2
    (needed
    ++ (perform (backup 1 1) ∷ perform note ∷ perform (put 3) ∷ perform force ∷ perform (release 1) ∷ []))

pub released-legal : Legal released
unfolding opened
released-legal =
    record { make = eqb→eq (makes released) 0 tt; events = holds (all_allowed (fresh released) released.events) tt }

pub released-on : (reached released).power ≡ on (memory_of released) (state_for released)
unfolding opened
released-on = live (reached released).power tt
