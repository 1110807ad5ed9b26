-- T2 where its bounds are met exactly: P 1, W 1, C 1, B 2, L 4, N 4, and one cut since upkeep was last idle. Page 1 was
-- formatted, changed, written and backed up as upkeep said; then it was written once more, and the machine was cut
-- before upkeep had renewed its backup's note. By the theorem upkeep comes to rest within nine calls; computed, it is
-- three: Load, Backup, Note.
use Prim.Native.Nat.{ℕ, ◌≤◌}
use mathlib.Core.Path.{◌≡◌, refl}
use mathlib.Core.Logic.{inr}
use mathlib.Core.Bool.{true, false}
use mathlib.Core.List.{List, [], ◌∷◌, ◌++◌}
use native.Mathlib.Omega.{arith}
use lib.Dec.{leb, eqb→eq}
use borrow.Author.Tests.{leb-true}
use Rattle.model.specs.Calls.{code_of}
use Rattle.model.specs.History.{on, Event, restart, perform, crash, crash_in, damage, all_allowed}
use Rattle.model.specs.Claim.{History, Legal, fresh, reached}
use Rattle.model.specs.declared.{geometry.Heading.TheVariants.Second, state.State.State}
use Rattle.upkeep_policy.specs.Upkeep.{idle, advice_of, is_idle, ever_written, disciplined, upkeep_events}
use Rattle.upkeep_policy.specs.UpkeepClaim.{Roomy, NumbersLeft, Rests, extended, bound}
use Rattle.upkeep_theory.proofs.Holds.{upkeep-holds}
use Rattle.cases.specs.Opened.{opened}
use Rattle.cases.specs.Build.{memory, memory_in}
use Rattle.cases.specs.Calls.{force, write, note}
use Rattle.cases.specs.Rings.{put}
use Rattle.cases.specs.Worked.{history_with, joined, makes}
use Rattle.cases.proofs.Cases.{equal}
use Rattle.cases.proofs.Tests.{holds, fails, live, state_in}
use Rattle.upkeep_cases.specs.Turns.{first}
use Rattle.upkeep_instance.proofs.Advised.{idle-is}

-- written once more and cut, with upkeep's frame the second of two
abbrev pub cut_back : List Event
cut_back =
    first
    ++ (perform (put 2) ∷ perform force ∷ perform (write 1) ∷ perform note ∷ crash ∷ restart (memory 2) ∷ [])

abbrev pub followed : History
followed = history_with Second 1 2 4 4 cut_back

abbrev m : List ℕ
m = memory_in (reached followed).power

abbrev s : State
s = state_in (reached followed).power

-- ---- the hypotheses

pub legal : Legal followed
unfolding opened
legal =
    record {
      make = eqb→eq (makes followed) 0 tt;
      events = holds (all_allowed (fresh followed) followed.events) tt;
    }

is-on : (reached followed).power ≡ on m s
unfolding opened
is-on = live (reached followed).power tt

roomy : Roomy followed 1 1
roomy =
    record {
      second = refl;
      turns = omega arith;
      slots = omega arith;
      notes = omega arith;
      reserve = inr (omega arith);
    }

keeps : disciplined 2 1 1 (fresh followed) 0 followed.events ≡ true
unfolding opened
keeps = holds (disciplined 2 1 1 (fresh followed) 0 followed.events) tt

-- the cut is counted: C 0 does not allow it
cut-counts : disciplined 2 1 0 (fresh followed) 0 followed.events ≡ false
unfolding opened
cut-counts = fails (disciplined 2 1 0 (fresh followed) 0 followed.events) tt

one_written : ever_written s ≤ 1
unfolding opened
one_written = leb-true (ever_written s) 1 (holds (leb (ever_written s) 1) tt)

four-records : s.durable ≡ 4
unfolding opened
four-records = eqb→eq s.durable 4 tt

four-notes : s.notes ≡ 4
unfolding opened
four-notes = eqb→eq s.notes 4 tt

left : NumbersLeft followed s 1
left = record { durable = omega (arith, four-records); notes = omega (arith, four-notes) }

-- ---- the theorem applied

pub comes : (n : ℕ) × (n ≤ bound 1 1) × Rests 2 (reached (extended followed (upkeep_events 2 n (reached followed))))
comes = upkeep-holds.idle_comes followed legal 2 1 1 roomy refl keeps m s is-on one_written left

pub within-nine : comes.0 ≤ 9
within-nine = comes.1

-- ---- and what it comes to

-- calls as numbers (docs/SCRIPT.md), each behind their count
abbrev pub codes : List Event → List (List ℕ)
codes [] = []
codes (restart m ∷ es) = [] ∷ codes es
codes (perform c ∷ es) = code_of c.0 ∷ codes es
codes (crash ∷ es) = [] ∷ codes es
codes (crash_in c l ∷ es) = [] ∷ codes es
codes (damage at xs ∷ es) = [] ∷ codes es

pub three-calls : joined (codes (upkeep_events 2 (bound 1 1) (reached followed)))
    ≡ joined ((4 ∷ 1 ∷ 2 ∷ []) ∷ (8 ∷ 1 ∷ 2 ∷ []) ∷ (9 ∷ []) ∷ [])
unfolding opened
three-calls =
    equal (joined (codes (upkeep_events 2 (bound 1 1) (reached followed))))
    (joined ((4 ∷ 1 ∷ 2 ∷ []) ∷ (8 ∷ 1 ∷ 2 ∷ []) ∷ (9 ∷ []) ∷ [])) tt

pub idle_then : advice_of 2 (reached (extended followed (upkeep_events 2 3 (reached followed)))) ≡ idle
unfolding opened
idle_then = idle-is (advice_of 2 (reached (extended followed (upkeep_events 2 3 (reached followed))))) tt

pub not-before : is_idle (advice_of 2 (reached (extended followed (upkeep_events 2 2 (reached followed))))) ≡ false
unfolding opened
not-before = fails (is_idle (advice_of 2 (reached (extended followed (upkeep_events 2 2 (reached followed)))))) tt
