-- T2 and T4 with two pages, no written note and damage: P 2, W 0, C 0, B 3, L 2, N 4. Page 1's noted backup is damaged;
-- upkeep, which reads no image, backs the page up again from its frame, and comes to rest within seven calls. Where the
-- machine is cut before that, page 1 is lost, and that is the rest that upkeep comes to.
use Prim.Native.Nat.{ℕ, ◌≤◌}
use mathlib.Core.Path.{◌≡◌, refl}
use mathlib.Core.Logic.{inl}
use mathlib.Core.Bool.{true, false}
use mathlib.Core.List.{List, [], ◌∷◌, ◌++◌}
use native.Mathlib.Omega.{arith}
use lib.Dec.{leb, eqb→eq}
use lib.ListN.{replicate}
use borrow.Author.Tests.{leb-true}
use Rattle.model.specs.Geometry.{slot_at}
use Rattle.model.specs.State.{held}
use Rattle.model.specs.Outcome.{refusal_of}
use Rattle.model.specs.Calls.{load_of}
use Rattle.model.specs.History.{on, Event, restart, perform, crash, damage, all_allowed}
use Rattle.model.specs.Claim.{History, Legal, Gone, Proviso, fresh, reached}
use Rattle.model.specs.declared.{geometry.Heading.TheVariants.Second, state.State.State}
use Rattle.upkeep_policy.specs.Upkeep.{stuck, advice_of, ever_written, disciplined, upkeep_events}
use Rattle.upkeep_policy.specs.UpkeepClaim.{LostIn, Roomy, NumbersLeft, Rests, extended, bound}
use Rattle.upkeep_theory.proofs.Holds.{upkeep-holds}
use Rattle.cases.specs.Opened.{opened}
use Rattle.cases.specs.Build.{memory, memory_in}
use Rattle.cases.specs.Calls.{begin, force, backup, note}
use Rattle.cases.specs.Rings.{put}
use Rattle.cases.specs.Worked.{history_with, joined, makes}
use Rattle.cases.proofs.Cases.{equal}
use Rattle.cases.proofs.Tests.{holds, live, state_in}
use Rattle.upkeep_instance.proofs.Advised.{stuck-is}
use Rattle.upkeep_instance.proofs.Comes.{codes}

-- both pages formatted, each backed up as its record came to the front of the log; then slot 1 fails
abbrev damaged : List Event
damaged =
    restart (memory 3) ∷ perform (begin 1 1 7) ∷ perform force ∷ perform (begin 2 2 9) ∷ perform force
    ∷ perform (backup 1 1) ∷ perform note ∷ perform (put 2) ∷ perform force ∷ perform (backup 2 2) ∷ perform note
    ∷ damage (slot_at 1) (replicate 256 1) ∷ perform (put 3) ∷ []

-- ---- page 1 is in its frame

abbrev pub in_frame : History
in_frame = history_with Second 2 3 2 4 damaged

abbrev m : List ℕ
m = memory_in (reached in_frame).power

abbrev s : State
s = state_in (reached in_frame).power

legal : Legal in_frame
unfolding opened
legal =
    record { make = eqb→eq (makes in_frame) 0 tt; events = holds (all_allowed (fresh in_frame) in_frame.events) tt }

is-on : (reached in_frame).power ≡ on m s
unfolding opened
is-on = live (reached in_frame).power tt

roomy : (h : History) → h.heading ≡ Second → h.pages ≡ 2 → h.slots ≡ 3 → h.records ≡ 2 → h.notes ≡ 4 → Roomy h 0 0
roomy h t p b l n =
    record {
      second = t;
      turns = omega (arith, l);
      slots = omega (arith, p, b);
      notes = omega (arith, p, n);
      reserve = inl refl;
    }

keeps : disciplined 3 0 0 (fresh in_frame) 0 in_frame.events ≡ true
unfolding opened
keeps = holds (disciplined 3 0 0 (fresh in_frame) 0 in_frame.events) tt

none_written : ever_written s ≤ 0
unfolding opened
none_written = leb-true (ever_written s) 0 (holds (leb (ever_written s) 0) tt)

counts : (s.durable ≡ 3) × (s.notes ≡ 2)
unfolding opened
counts = (eqb→eq s.durable 3 tt, eqb→eq s.notes 2 tt)

left : NumbersLeft in_frame s 0
left = record { durable = omega (arith, counts.0); notes = omega (arith, counts.1) }

pub comes : (n : ℕ) × (n ≤ bound 0 2) × Rests 3 (reached (extended in_frame (upkeep_events 3 n (reached in_frame))))
comes =
    upkeep-holds.idle_comes in_frame legal 3 0 0 (roomy in_frame refl refl refl refl refl) refl keeps m s is-on none_written
    left

pub within-seven : comes.0 ≤ 7
within-seven = comes.1

-- Force, Backup in the slot that is left, Note
pub three-calls : joined (codes (upkeep_events 3 (bound 0 2) (reached in_frame)))
    ≡ joined ((6 ∷ []) ∷ (8 ∷ 1 ∷ 3 ∷ []) ∷ (9 ∷ []) ∷ [])
unfolding opened
three-calls =
    equal (joined (codes (upkeep_events 3 (bound 0 2) (reached in_frame))))
    (joined ((6 ∷ []) ∷ (8 ∷ 1 ∷ 3 ∷ []) ∷ (9 ∷ []) ∷ [])) tt

-- ---- cut before page 1 was backed up again

abbrev pub cut_first : History
cut_first = history_with Second 2 3 2 4 (damaged ++ (perform force ∷ crash ∷ restart (memory 3) ∷ []))

cut-legal : Legal cut_first
unfolding opened
cut-legal =
    record { make = eqb→eq (makes cut_first) 0 tt; events = holds (all_allowed (fresh cut_first) cut_first.events) tt }

pub cut_keeps : disciplined 3 0 0 (fresh cut_first) 0 cut_first.events ≡ true
unfolding opened
cut_keeps = holds (disciplined 3 0 0 (fresh cut_first) 0 cut_first.events) tt

pub stuck-at-1 : advice_of 3 (reached cut_first) ≡ stuck 1
unfolding opened
stuck-at-1 = stuck-is 1 (advice_of 3 (reached cut_first)) tt

abbrev m₁ : List ℕ
m₁ = memory_in (reached cut_first).power

abbrev s₁ : State
s₁ = state_in (reached cut_first).power

cut_on : (reached cut_first).power ≡ on m₁ s₁
unfolding opened
cut_on = live (reached cut_first).power tt

load-23 : refusal_of (load_of (reached cut_first).volume m₁ s₁ 1 3).answer ≡ 23
unfolding opened
load-23 = eqb→eq (refusal_of (load_of (reached cut_first).volume m₁ s₁ 1 3).answer) 23 tt

no-frame : held s₁ 1 ≡ false
unfolding opened
no-frame = refl

lost : LostIn 3 (reached cut_first).power (reached cut_first).volume 1
lost = rw cut_on (no-frame, load-23)

-- T4: record 1 has left, and page 1's start is not there
pub start-lost : Gone cut_first × (Proviso cut_first 1 → ⊥)
start-lost = upkeep-holds.lost_is_lost cut_first cut-legal 3 1 lost
