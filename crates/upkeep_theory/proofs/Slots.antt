-- With more slots than pages one is outside the index. And T4's half that stands already: a page whose Load is 23 has
-- lost its start.
use mathlib.Core.Path.{◌≡◌, refl, ap}
use mathlib.Core.Logic.{⊎_elim}
use mathlib.Core.Bool.{true, false, cond, not}
use mathlib.Core.List.{List, [], ◌∷◌}
use Prim.Native.Nat.{ℕ, zero, suc, ◌+◌, ◌≤◌}
use native.Mathlib.Omega.{arith}
use native.Mathlib.Decide.{dec_lt}
use lib.Dec.{eqb}
use lib.ListN.{get_or, get_or-eq_default}
use borrow.Author.Tests.{eqb-true, le-ltb, not-false}
use Rattle.laws.proofs.Tables.{by_cases, or_cases, all-at, within-bounds, within-holds, true-not-false}
use Rattle.laws.proofs.Search.{first-from}
use Rattle.laws.proofs.WellFormed.{formed}
use Rattle.model.specs.Tables.{within}
use Rattle.model.specs.Geometry.{geometry_of}
use Rattle.model.specs.Index.{empty_entry, entry_row, slot_used}
use Rattle.model.specs.State.{page_fits, entry_zero}
use Rattle.model.specs.History.{Power, off, on}
use Rattle.model.specs.Claim.{reached, Gone, Proviso}
use Rattle.model.specs.declared.state.Entry.{Entry}
use Rattle.history.proofs.Theorem.{demand2}
use Rattle.upkeep_policy.specs.Upkeep.{free_slot}
use Rattle.upkeep_policy.specs.UpkeepClaim.{SlotLeft, LostIn, LostIsLost}

-- ---- a count of slots in use

-- how many entries have a slot of 1 to n
abbrev used : ℕ → List Entry → ℕ
used n [] = 0
used n (e ∷ es) = cond (within n e.slot) 1 0 + used n es

within_more : (n b : ℕ) → cond (within n b) 1 0 ≤ cond (within (suc n) b) 1 0
within_more n b = by_cases (within n b)
    (λ t. let w = within-bounds n b t in
    rw (t, within-holds (suc n) b w.0 (omega (arith, w.1))) (omega arith)) (λ t. rw t (omega arith))

used-more : (n : ℕ) (es : List Entry) → used n es ≤ used (suc n) es
used-more n [] = omega arith
used-more n (e ∷ es) = omega (arith, within_more n e.slot, used-more n es)

-- one more slot is in use
used-next : (n : ℕ) (es : List Entry) → slot_used (suc n) es ≡ true → suc (used n es) ≤ used (suc n) es
unfolding slot_used
used-next n [] h = absurd (true-not-false h refl)
used-next n (e ∷ es) h = ⊎_elim
    (λ t. let q : e.slot ≡ suc n = eqb-true e.slot (suc n) t in
    let a : within (suc n) e.slot ≡ true = within-holds (suc n) e.slot (omega arith) (omega arith) in
    let b : within n e.slot ≡ false =
    by_cases (within n e.slot) (λ u. absurd (omega (arith, (within-bounds n e.slot u).1))) (λ u. u) in
    rw (a, b) (omega (arith, used-more n es)))
    (λ t. omega (arith, within_more n e.slot, used-next n es t))
    (or_cases (eqb e.slot (suc n)) (slot_used (suc n) es) h)

used_all : (n : ℕ) (es : List Entry) → ((b : ℕ) → 1 ≤ b → b ≤ n → slot_used b es ≡ true) → n ≤ used n es
used_all zero es h = omega arith
used_all (suc n) es h =
    omega (arith, used_all n es (λ b x y. h b x (omega arith)), used-next n es (h (suc n) (omega arith) (omega arith)))

-- entries past P have none
used-few : (n P : ℕ) (es : List Entry) → ((i : ℕ) → P ≤ i → (get_or es i empty_entry).slot ≡ 0) → used n es ≤ P
used-few n P [] h = omega arith
used-few n zero (e ∷ es) h =
    let z : e.slot ≡ 0 = h 0 (omega arith) in
    rw z (omega (arith, used-few n 0 es (λ i b. h (suc i) (omega arith))))
used-few n (suc P) (e ∷ es) h =
    let ih : used n es ≤ P = used-few n P es (λ i b. h (suc i) (omega arith)) in
    by_cases (within n e.slot) (λ t. rw t (omega arith)) (λ t. rw t (omega arith))

-- ---- the claim

pub slot-left : SlotLeft
unfolding free_slot page_fits
slot-left v frames s wf p64 size more =
    let g = geometry_of v in
    let f = formed g frames s wf in
    let q = first-from (λ (b : ℕ). not (slot_used b s.index)) g.slots 1 in
    let rows : (i : ℕ) → g.pages ≤ i → (get_or s.index i empty_entry).slot ≡ 0 = λ i b. elim (dec_lt i 64) [
      | yes y ↦
          let e = entry_row s.index i in
          let t : entry_zero e ≡ true = rw (le-ltb i g.pages b) at (f.pages i y) in
          eqb-true e.slot 0
          (all-at (eqb e.last 0 ∷ eqb e.durable 0 ∷ eqb e.written 0 ∷ eqb e.slot 0 ∷ eqb e.backup 0 ∷ [])
          3 t)
      | no n ↦ ap (λ (e : Entry). e.slot) (get_or-eq_default s.index empty_entry {n = i} (omega arith))
    ] in
    let few = used-few g.slots g.pages s.index rows in (
      q.low,
      elim (dec_lt g.slots (free_slot g s)) [
        | yes y ↦ absurd (omega (
          arith,
          used_all g.slots s.index
              (λ b x z. not-false _ (q.before b x (omega arith))),
        ))
        | no n ↦ omega arith
      ],
    )

pub lost-is-lost : LostIsLost
lost-is-lost h legal r p l = go (reached h).power refl l
  where
    go : (y : Power) → (reached h).power ≡ y → LostIn r y (reached h).volume p → Gone h × (Proviso h p → ⊥)
    go off e l = absurd l
    go (on m s) e l = (demand2.loads h legal m s e p r).below l.1
