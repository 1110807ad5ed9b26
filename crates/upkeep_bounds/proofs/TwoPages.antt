-- T2 at a history of two pages that meets its hypotheses at their bounds, with a damage and a cut in it: P 2, W 1, C 1,
-- B 3, L 4, N 5. Both pages are formatted; page 2's place is damaged; page 1 is changed and backed up, as upkeep said,
-- and written; after a cut one more change of it is pending.
use Prim.Native.Nat.{ℕ, ◌≤◌}
use mathlib.Core.Path.{◌≡◌, refl}
use mathlib.Core.Logic.{inr}
use mathlib.Core.Bool.{true, false}
use mathlib.Core.List.{List, [], ◌∷◌, ◌++◌}
use native.Mathlib.Omega.{arith}
use lib.Dec.{leb, eqb→eq}
use lib.ListN.{replicate}
use borrow.Author.Tests.{leb-true}
use Rattle.model.specs.Geometry.{page_at, length_for}
use Rattle.model.specs.Outcome.{refusal_of}
use Rattle.model.specs.Restart.{make_of}
use Rattle.model.specs.History.{Event, on, restart, perform, crash, damage, all_allowed}
use Rattle.model.specs.Carry.{starts_in}
use Rattle.model.specs.Claim.{History, Legal, fresh, reached}
use Rattle.model.specs.declared.{geometry.Heading.TheVariants.Second, state.State.State}
use Rattle.upkeep_policy.specs.Upkeep.{ever_written, disciplined, upkeep_events}
use Rattle.upkeep_policy.specs.UpkeepClaim.{Roomy, NumbersLeft, Rests, extended, bound}
use Rattle.upkeep_theory.proofs.Holds.{upkeep-holds}
use Rattle.cases.specs.Opened.{opened}
use Rattle.cases.specs.Build.{memory, memory_in}
use Rattle.cases.specs.Calls.{begin, load, force, write, backup, note}
use Rattle.cases.specs.Rings.{put}
use Rattle.cases.proofs.Tests.{holds, live, state_in}

abbrev before : List Event
before =
    restart (memory 3) ∷ perform (begin 1 1 7) ∷ perform force ∷ perform (begin 2 2 9) ∷ perform force
    ∷ damage (page_at 2) (replicate 256 1) ∷ perform (put 3) ∷ perform force ∷ perform (backup 1 1) ∷ perform note
    ∷ perform (write 1) ∷ perform note ∷ crash ∷ restart (memory 3) ∷ perform (load 1 1) ∷ []

abbrev history : List Event → History
history es =
    record {
      heading = Second;
      found = replicate (length_for 2 3 4 5) 0xDD;
      pages = 2;
      slots = 3;
      records = 4;
      notes = 5;
      events = es;
    }

abbrev pub two_pages : History
two_pages = history (before ++ (perform (put 4) ∷ []))

-- before the last change upkeep is idle
abbrev pub quiet : History
quiet = history before

abbrev m : List ℕ
m = memory_in (reached two_pages).power

abbrev s : State
s = state_in (reached two_pages).power

made : refusal_of (make_of Second (replicate (length_for 2 3 4 5) 0xDD) 2 3 4 5).answer ≡ 0
unfolding opened
made = eqb→eq (refusal_of (make_of Second (replicate (length_for 2 3 4 5) 0xDD) 2 3 4 5).answer) 0 tt

pub legal : Legal two_pages
unfolding opened
legal = record { make = made; events = holds (all_allowed (fresh two_pages) two_pages.events) tt }

pub quiet-legal : Legal quiet
unfolding opened
quiet-legal = record { make = made; events = holds (all_allowed (fresh quiet) quiet.events) tt }

pub quiet-on : (reached quiet).power ≡ on (memory_in (reached quiet).power) (state_in (reached quiet).power)
unfolding opened
quiet-on = live (reached quiet).power tt

pub is-on : (reached two_pages).power ≡ on m s
unfolding opened
is-on = live (reached two_pages).power tt

pub roomy : Roomy two_pages 1 1
roomy = record { second = refl; turns = omega arith; slots = omega arith; notes = omega arith; reserve = inr (omega arith) }

pub keeps : disciplined 3 1 1 (fresh two_pages) 0 two_pages.events ≡ true
unfolding opened
keeps = holds (disciplined 3 1 1 (fresh two_pages) 0 two_pages.events) tt

one : ever_written s ≤ 1
unfolding opened
one = leb-true (ever_written s) 1 (holds (leb (ever_written s) 1) tt)

few : s.durable ≤ 4
unfolding opened
few = leb-true s.durable 4 (holds (leb s.durable 4) tt)

few-notes : s.notes ≤ 5
unfolding opened
few-notes = leb-true s.notes 5 (holds (leb s.notes 5) tt)

left : NumbersLeft two_pages s 1
left = record { durable = omega (arith, few); notes = omega (arith, few-notes) }

no_start : starts_in two_pages.events ≡ false
no_start = refl

pub comes : (n : ℕ) × (n ≤ bound 1 2) × Rests 3 (reached (extended two_pages (upkeep_events 3 n (reached two_pages))))
comes = upkeep-holds.idle_comes two_pages legal 3 1 1 roomy no_start keeps m s is-on one left

-- as a number: twelve calls at most
pub twelve : comes.0 ≤ 12
twelve = comes.1
