-- The lowest free slot: with n slots in the index at most, it is one of the first n + 1.
use mathlib.Core.Path.{◌≡◌, refl}
use mathlib.Core.Logic.{◌≢◌}
use mathlib.Core.Bool.{false, cond, not}
use mathlib.Core.List.{List, [], ◌∷◌}
use Prim.Native.Nat.{ℕ, zero, suc, ◌+◌, ◌-◌, ◌≤◌, ◌<◌}
use native.Mathlib.Omega.{arith}
use native.Mathlib.Decide.{ℕ_discrete}
use lib.ListN.{length}
use lib.Dec.{eqb}
use borrow.Author.Tests.{eq-eqb, ne_eqb, eqb-true, eqb-false, not-true}
use Rattle.laws.proofs.Tables.{by_cases}
use Rattle.laws.proofs.Search.{first_found}
use Rattle.model.specs.Index.{entry_row, entry_of, slot_used}
use Rattle.planning.specs.Rehearsal.{page_row}
use Rattle.planning.specs.RehearsalRun.{free_slot, backed_up}
use Rattle.model.specs.declared.{state.Entry.Entry, state.State.State}
use Rattle.planning.specs.declared.rehearsal.Figures.{Figures}

-- how many entries have a slot
unfoldable pub slotted : List Entry → ℕ
slotted [] = 0
slotted (e ∷ es) = cond (eqb e.slot 0) 0 1 + slotted es

-- ---- no more slots are used than entries have one

-- of the slots 1 to n: those in an entry
unfoldable used_up_to : List Entry → ℕ → ℕ
used_up_to index zero = 0
used_up_to index (suc n) = used_up_to index n + cond (slot_used (suc n) index) 1 0

used-none : (n : ℕ) → used_up_to [] n ≡ 0
unfolding used_up_to slot_used
used-none zero = refl
used-none (suc n) = omega (arith, used-none n)

module _ (e : Entry) (es : List Entry) where
  used-miss : (n : ℕ) → ((j : ℕ) → j < n → e.slot ≢ suc j) → used_up_to (e ∷ es) n ≡ used_up_to es n
  unfolding used_up_to slot_used
  used-miss zero h = refl
  used-miss (suc n) h = rw (ne_eqb e.slot (suc n) (h n (omega arith))) (omega (arith, used-miss n (λ j b. h j (omega arith))))

  used-one : (n : ℕ) → used_up_to (e ∷ es) n ≤ suc (used_up_to es n)
  unfolding used_up_to slot_used
  used-one zero = omega arith
  used-one (suc n) = elim (ℕ_discrete e.slot (suc n)) [
    | yes z ↦ rw (eq-eqb e.slot (suc n) z) (omega (arith, used-miss n (λ j b y. omega arith)))
    | no z ↦ rw (ne_eqb e.slot (suc n) z) (omega (arith, used-one n))
  ]

used_le : (index : List Entry) (n : ℕ) → used_up_to index n ≤ slotted index
unfolding slotted
used_le [] n = omega (arith, used-none n)
used_le (e ∷ es) n = by_cases (eqb e.slot 0)
    (λ t. rw t (omega (arith, used-miss e es n (λ j b y. omega (arith, eqb-true e.slot 0 t)), used_le es n)))
    (λ t. rw t (omega (arith, used-one e es n, used_le es n)))

some-free : (index : List Entry) (m : ℕ) → used_up_to index m < m → (j : ℕ) × (j < m) × (slot_used (suc j) index ≡ false)
unfolding used_up_to
some-free index zero h = absurd (omega arith)
some-free index (suc m) h = by_cases (slot_used (suc m) index)
    (λ t.
    let l : used_up_to index m + 1 < suc m = rw t at h in
    let r = some-free index m (omega arith) in
    (r.0, omega (arith, r.1), r.2))
    (λ t. (m, omega arith, t))

-- ---- the lowest

pub free-slot : (s : State) (n : ℕ) → slotted s.index ≤ n → n < 128
    → (1 ≤ free_slot s) × (free_slot s ≤ suc n) × (slot_used (free_slot s) s.index ≡ false)
free-slot s n le lt =
    let r = some-free s.index (suc n) (omega (arith, used_le s.index (suc n))) in
    let f = first_found (λ i. not (slot_used (suc i) s.index)) 128 0 r.0 (omega arith) (omega (arith, r.1)) (rw r.2) in
    (omega arith, omega (arith, f.0, r.1), not-true (slot_used (free_slot s) s.index) f.1)

-- ---- entries with a slot, and pages that were backed up

-- of the first n rows: those with a slot
unfoldable rows_slotted : List Entry → ℕ → ℕ
rows_slotted index zero = 0
rows_slotted index (suc n) = rows_slotted index n + cond (eqb (entry_row index n).slot 0) 0 1

rows-cons : (e : Entry) (es : List Entry) (n : ℕ) → rows_slotted (e ∷ es) (suc n) ≡ cond (eqb e.slot 0) 0 1 + rows_slotted es n
unfolding rows_slotted
rows-cons e es zero = omega arith
rows-cons e es (suc n) = omega (arith, rows-cons e es n)

slotted-rows : (index : List Entry) → slotted index ≡ rows_slotted index (length index)
unfolding slotted rows_slotted
slotted-rows [] = refl
slotted-rows (e ∷ es) = omega (arith, slotted-rows es, rows-cons e es (length es))

-- a page with a slot was backed up
abbrev pub Covered : List Entry → List Figures → Type 0
Covered index fs = (p : ℕ) → 1 ≤ p → p ≤ 64 → (entry_of index p).slot ≢ 0 → (page_row fs p).backups ≢ 0

rows-backed : (index : List Entry) (fs : List Figures) → Covered index fs → (n : ℕ) → n ≤ 64 → rows_slotted index n ≤ backed_up fs n
unfolding rows_slotted backed_up
rows-backed index fs h zero b = omega arith
rows-backed index fs h (suc n) b =
    let e : suc n - 1 ≡ n = omega arith in
    let ih : rows_slotted index n ≤ backed_up fs n = rows-backed index fs h n (omega arith) in
    by_cases (eqb (entry_row index n).slot 0)
    (λ t. rw t (omega arith))
    (λ t.
    let some : (entry_of index (suc n)).slot ≢ 0 = rw e (eqb-false (entry_row index n).slot 0 t) in
    rw (t, ne_eqb (page_row fs (suc n)).backups 0 (h (suc n) (omega arith) b some)) (omega arith))

pub slotted-backed : (s : State) (fs : List Figures) → length s.index ≡ 64 → Covered s.index fs → slotted s.index ≤ backed_up fs 64
slotted-backed s fs size h = rw (slotted-rows s.index, size) (rows-backed s.index fs h 64 (omega arith))
