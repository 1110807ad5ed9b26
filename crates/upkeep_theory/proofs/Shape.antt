-- What upkeep advises, by cases: the tree that every proof about its calls goes through.
use mathlib.Core.Path.{◌≡◌, refl}
use mathlib.Core.Logic.{◌≢◌}
use mathlib.Core.Bool.{Bool, true, false, ◌||◌}
use mathlib.Core.List.{List}
use Prim.Native.Nat.{ℕ, ◌≤◌}
use native.Mathlib.Omega.{arith}
use lib.Dec.{eqb, leb, ltb}
use borrow.Author.Tests.{leb-true, ltb-true, ltb-false, leb-false, eqb-false}
use Rattle.laws.proofs.Tables.{by_cases, or-neither}
use Rattle.laws.proofs.Search.{first-from}
use Rattle.model.specs.Tables.{first_of}
use Rattle.model.specs.Geometry.{ring, geometry_of}
use Rattle.model.specs.Item.{is_written}
use Rattle.model.specs.Scan.{log_record, note_record}
use Rattle.model.specs.State.{log_full, notes_full, note_pending, held}
use Rattle.model.specs.Refusals.{page_dirty, load_rows}
use Rattle.model.specs.Calls.{Call, no_payload}
use Rattle.model.specs.declared.state.State.{State}
use Rattle.model.specs.declared.command.Command.TheVariants.{Load, Force, Write}
use Rattle.model.specs.declared.command.Command.TheVariants.{Backup, Note}
use Rattle.upkeep_policy.specs.Upkeep.{idle, stuck, make, note_position, log_position, note_ahead, log_ahead, reserve}
use Rattle.upkeep_policy.specs.Upkeep.{first_needed_note, first_needed_log, no_slot, free_slot, refresh, renew, upkeep_of}

-- ---- a renewal's next call

pub data Renewal (v m : List ℕ) (s : State) (r p : ℕ) (written : Bool) (c : Call) : Type 0 where
  loads : held s p ≡ false → first_of (load_rows v m s p r) ≢ 23 → c ≡ (Load p r, no_payload) → Renewal v m s r p written c
  backs : held s p ≡ true → written ≡ false → free_slot (geometry_of v) s ≤ (geometry_of v).slots
      → notes_full (geometry_of v) v s ≡ false
      → c ≡ (Backup p (free_slot (geometry_of v) s), no_payload) → Renewal v m s r p written c
  writes : held s p ≡ true → written ≡ true → page_dirty s p ≡ true → notes_full (geometry_of v) v s ≡ false
      → c ≡ (Write p, no_payload) → Renewal v m s r p written c
  puts : held s p ≡ true → written ≡ true → page_dirty s p ≡ false → log_full (geometry_of v) v s ≡ false
      → c ≡ refresh m s p → Renewal v m s r p written c

made : (a c : Call) → make a ≡ make c → c ≡ a
made a c e = cc

not_made : {A : Type 0} (p : ℕ) (c : Call) → stuck p ≡ make c → A
not_made p c e = let z : ◌≡◌ {A = ℕ} 0 1 = cc in absurd (omega arith)

idle-made : {A : Type 0} (c : Call) → idle ≡ make c → A
idle-made c e = let z : ◌≡◌ {A = ℕ} 0 1 = cc in absurd (omega arith)

pub renewal : (v m : List ℕ) (s : State) (r p : ℕ) (written : Bool) (c : Call) → renew v m s r p written ≡ make c
    → Renewal v m s r p written c
unfolding renew
renewal v m s r p written c e =
    let g = geometry_of v in
    by_cases (held s p)
    (λ h. by_cases written
    (λ t. by_cases (page_dirty s p)
    (λ d. by_cases (notes_full g v s) (λ f. not_made p c (rw (h, t, d, f) at e))
    (λ f. writes h t d f (made _ c (rw (h, t, d, f) at e))))
    (λ d. by_cases (log_full g v s) (λ f. not_made p c (rw (h, t, d, f) at e))
    (λ f. puts h t d f (made _ c (rw (h, t, d, f) at e)))))
    (λ t. by_cases (no_slot g s || notes_full g v s)
    (λ f. not_made p c (rw (h, t, f) at e))
    (λ f. let q = or-neither (no_slot g s) (notes_full g v s) f in
    backs h t (ltb-false g.slots (free_slot g s) q.0) q.1 (made _ c (rw (h, t, f) at e)))))
    (λ h. by_cases (eqb (first_of (load_rows v m s p r)) 23)
    (λ f. not_made p c (rw (h, f) at e))
    (λ f. loads h (eqb-false (first_of (load_rows v m s p r)) 23 f) (made _ c (rw (h, f) at e))))

-- ---- the advice

pub data Advised (v m : List ℕ) (s : State) (r : ℕ) (c : Call) : Type 0 where
  notes : note_pending s.note ≡ true → c ≡ (Note, no_payload) → Advised v m s r c
  forces : note_pending s.note ≡ false → 1 ≤ s.pending → c ≡ (Force, no_payload) → Advised v m s r c
  -- U3: the note at position i
  by_note : note_pending s.note ≡ false → s.pending ≡ 0 → ring (geometry_of v) ≡ true
      → (i : ℕ) → 1 ≤ i → i ≤ 2 → note_ahead (geometry_of v) v s i ≡ true
      → Renewal v m s r (note_record (geometry_of v) v (note_position (geometry_of v) s i)).page
      (is_written (note_record (geometry_of v) v (note_position (geometry_of v) s i))) c
      → Advised v m s r c
  -- U4: the record at position i; note positions 1 and 2 are spare
  by_log : note_pending s.note ≡ false → s.pending ≡ 0 → ring (geometry_of v) ≡ true
      → note_ahead (geometry_of v) v s 1 ≡ false → note_ahead (geometry_of v) v s 2 ≡ false
      → (i : ℕ) → 1 ≤ i → i ≤ reserve (geometry_of v) → log_ahead (geometry_of v) v s i ≡ true
      → i ≡ first_needed_log (geometry_of v) v s
      → Renewal v m s r (log_record (geometry_of v) v (log_position (geometry_of v) s i)).page false c
      → Advised v m s r c

pub advised : (v m : List ℕ) (s : State) (r : ℕ) (c : Call) → upkeep_of v m s r ≡ make c → Advised v m s r c
unfolding upkeep_of first_needed_note first_needed_log
advised v m s r c e =
    let g = geometry_of v in
    let i = first_needed_note g v s in
    let j = first_needed_log g v s in
    let n = first-from (note_ahead g v s) 2 1 in
    let l = first-from (log_ahead g v s) (reserve g) 1 in
    by_cases (note_pending s.note)
    (λ a. notes a (made _ c (rw a at e)))
    (λ a. by_cases (ltb 0 s.pending)
    (λ b. forces a (ltb-true 0 s.pending b) (made _ c (rw (a, b) at e)))
    (λ b. let z : s.pending ≡ 0 = omega (arith, ltb-false 0 s.pending b) in
    by_cases (ring g)
    (λ o. by_cases (leb i 2)
    (λ d. let hi = leb-true i 2 d in
    by_note a z o i n.low hi (n.hit (omega arith)) (renewal v m s r _ _ c (rw (a, b, o, d) at e)))
    (λ d. let hi = leb-false i 2 d in
    by_cases (leb j (reserve g))
    (λ f. let hj = leb-true j (reserve g) f in
    by_log a z o (n.before 1 (omega arith) (omega arith)) (n.before 2 (omega arith) (omega arith))
    j l.low hj (l.hit (omega arith)) refl (renewal v m s r _ _ c (rw (a, b, o, d, f) at e)))
    (λ f. idle-made c (rw (a, b, o, d, f) at e))))
    (λ o. idle-made c (rw (a, b, o) at e))))
