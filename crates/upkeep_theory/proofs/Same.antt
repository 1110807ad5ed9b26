-- T2: what an advised call does to the counts, and that no more pages are written.
use mathlib.Core.Path.{◌≡◌, refl}
use mathlib.Core.Logic.{⊎_elim}
use mathlib.Core.Bool.{Bool, true, ◌||◌, not}
use mathlib.Core.List.{List, [], ◌∷◌}
use Prim.Native.Nat.{ℕ, zero, suc, ◌-◌, ◌≤◌, ◌<◌}
use native.Mathlib.Nat.{le_of_suc-le-suc}
use native.Mathlib.Omega.{arith}
use lib.Dec.{eqb}
use lib.ListN.{length, set}
use borrow.Author.Tests.{eq-eqb}
use Rattle.laws.proofs.Tables.{by_cases, or_left, or_cases}
use Rattle.model.specs.Index.{entry_row}
use Rattle.model.specs.State.{holder_from}
use Rattle.model.specs.Effects.{appended_state, forced_state}
use Rattle.model.specs.Tables.{within}
use Rattle.model.specs.declared.{state.Entry.Entry, state.Frame.Frame, state.State.State}
use Rattle.upkeep_policy.specs.Upkeep.{ever_written, pending_written}
use Rattle.upkeep_theory.proofs.Apart.{field-set}
use Rattle.upkeep_theory.proofs.Counting.{count-le}

-- a page put into a frame is found
pub holder-put : (i p j : ℕ) (fs : List Frame) (d : Bool) → j < length fs
    → 0 < holder_from i p (set fs j (record { page = p; dirty = d }))
unfolding holder_from
holder-put i p j [] d b = absurd (omega arith)
holder-put i p zero (f ∷ fs) d b = rw (eq-eqb p p refl) (omega arith)
holder-put i p (suc j) (f ∷ fs) d b = by_cases (eqb f.page p) (λ t. rw t (omega arith))
    (λ t. rw t (holder-put (suc i) p j fs d (le_of_suc-le-suc b)))

-- the same written numbers, and an owed note that adds none
pub few-same : (s s' : State) → ((i : ℕ) → (entry_row s'.index i).written ≡ (entry_row s.index i).written)
    → ((i : ℕ) → pending_written s'.note (suc i) ≡ true
    → (not (eqb (entry_row s.index i).written 0) || pending_written s.note (suc i)) ≡ true)
    → ever_written s' ≤ ever_written s
unfolding ever_written
few-same s s' e h = count-le 64 _ _ (λ i b t. ⊎_elim
    (λ u. let y : not (eqb (entry_row s.index i).written 0) ≡ true = rw (← (e i)) u in
    or_left (pending_written s.note (suc i)) y)
    (λ u. h i u)
    (or_cases (not (eqb (entry_row s'.index i).written 0)) (pending_written s'.note (suc i)) t))

pub written-appended : (s : State) (p f i : ℕ)
    → (entry_row (appended_state s p f).index i).written ≡ (entry_row s.index i).written
unfolding appended_state
written-appended s p f i = field-set (λ (e : Entry). e.written) s.index (p - 1) _ refl i

pub written-forced : (s : State) (pages p i : ℕ)
    → (entry_row (forced_state s pages p).index i).written ≡ (entry_row s.index i).written
unfolding forced_state
written-forced s pages p i = by_cases (within pages p)
    (λ t. rw t (field-set (λ (e : Entry). e.written) s.index (p - 1) _ refl i)) (λ t. rw t)
