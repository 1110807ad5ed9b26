-- What class, start and count say of each other, on any bytes: the proof of `Health`.
use mathlib.Core.Path.{◌≡◌, refl, sym, ◌∙◌, subst}
use mathlib.Core.Logic.{◌≢◌, ◌↔◌}
use mathlib.Core.Bool.{Bool, true, false, cond, not, ◌||◌}
use mathlib.Core.List.{List, [], ◌∷◌}
use Prim.Native.Nat.{ℕ, zero, suc, ◌-◌, ◌≤◌}
use native.Mathlib.Omega.{arith}
use lib.Dec.{eqb, leb, ltb}
use lib.ListN.{length}
use borrow.Author.Tests.{eqb-true, eqb-false, eq-eqb, lt-ltb, not-false}
use Rattle.laws.proofs.Tables.{by_cases, none-at, all-at, within-bounds}
use Rattle.laws.proofs.Walks.{step}
use Rattle.laws.proofs.WellFormed.{ready}
use Rattle.laws.proofs.Places.{valid-facts}
use Rattle.model.specs.Tables.{Row, first_of, within}
use Rattle.model.specs.Geometry.{geometry_of}
use Rattle.model.specs.Item.{image_lsn, valid_image, is_format, record_of}
use Rattle.model.specs.Index.{entry_of}
use Rattle.model.specs.Scan.{index_of}
use Rattle.model.specs.Repair.{View, Walk, walk_of, walk_from, start_of, class_of, own_start, backup_start, chain_record}
use Rattle.model.specs.Repair.{repair_of, state_view, scanned_view}
use Rattle.model.specs.State.{frame_count, held, blank, last_number, entry_fits, page_fits}
use Rattle.model.specs.Refusals.{load_rows, inspect_rows, frame_blocked}
use Rattle.laws.proofs.Conditions.{chain_broken, chain_below}
use Rattle.model.specs.Outcome.{decided}
use Rattle.model.specs.Effects.{load_done}
use Rattle.model.specs.Calls.{load_of}
use Rattle.model.specs.Restart.{inspect_of}
use Rattle.model.specs.Health.{Untouched, Health}
use Rattle.model.specs.declared.{geometry.Geometry.Geometry, state.State.State, state.Entry.Entry, answer.Repair.Repair}
use Rattle.model.specs.declared.answer.Class.TheVariants.{Good, Behind, Stale, Failed, Ahead}
use Rattle.model.specs.declared.answer.Answer.TheVariants.{Refused, Repaired}
use Rattle.model.specs.declared.answer.Start.TheVariants as start

-- ---- the class

-- Good is a valid image with the newest durable number
good-tests : (a b c d : Bool) → cond a (cond b Good (cond c Ahead (cond d Stale Behind))) Failed ≡ Good → (a ≡ true) × (b ≡ true)
good-tests true true c d e = (refl, refl)
good-tests true false true d e = let z : ◌≡◌ {A = ℕ} 0 1 = cc in absurd (omega arith)
good-tests true false false true e = let z : ◌≡◌ {A = ℕ} 0 1 = cc in absurd (omega arith)
good-tests true false false false e = let z : ◌≡◌ {A = ℕ} 0 1 = cc in absurd (omega arith)
good-tests false b c d e = let z : ◌≡◌ {A = ℕ} 0 1 = cc in absurd (omega arith)

failed-test : (a b c d : Bool) → cond a (cond b Good (cond c Ahead (cond d Stale Behind))) Failed ≡ Failed → a ≡ false
failed-test true true c d e = let z : ◌≡◌ {A = ℕ} 0 1 = cc in absurd (omega arith)
failed-test true false true d e = let z : ◌≡◌ {A = ℕ} 0 1 = cc in absurd (omega arith)
failed-test true false false true e = let z : ◌≡◌ {A = ℕ} 0 1 = cc in absurd (omega arith)
failed-test true false false false e = let z : ◌≡◌ {A = ℕ} 0 1 = cc in absurd (omega arith)
failed-test false b c d e = refl

-- ---- the walk's first step

-- a walk that stops at the own image and has passed no record stopped there at once
first_step : (a b l c f : Bool) (n : ℕ) (rest : Walk) → start_of (step a b l c f n rest).stop ≡ start.Own
    → length (step a b l c f n rest).chain ≡ 0 → a ≡ true
unfolding step
first_step true b l c f n rest e z = refl
first_step false true l c f n rest e z = let q : ◌≡◌ {A = ℕ} 0 1 = cc in absurd (omega arith)
first_step false false true c f n rest e z = let q : ◌≡◌ {A = ℕ} 0 1 = cc in absurd (omega arith)
first_step false false false true true n rest e z = absurd (omega arith)
first_step false false false true false n rest e z = absurd (omega arith)
first_step false false false false f n rest e z = let q : ◌≡◌ {A = ℕ} 0 1 = cc in absurd (omega arith)

-- a number of 1 or more that is the own start is a valid image's
own-number : (t : Bool) (n d : ℕ) → 1 ≤ d → cond t n 0 ≡ d → (t ≡ true) × (n ≡ d)
own-number true n d l e = (refl, e)
own-number false n d l e = absurd (omega arith)

module _ (g : Geometry) (p : ℕ) (w : View) where
  pub failed-is : ((repair_of g p w).class ≡ Failed) ↔ (valid_image g p w.own ≡ false)
  unfolding repair_of class_of
  failed-is = (
    failed-test (valid_image g p w.own) (eqb (image_lsn w.own) w.durable) (ltb w.durable (image_lsn w.own))
        (ltb (image_lsn w.own) w.written),
    λ t. rw t,
  )

  good-untouched : (n : ℕ) → w.durable ≡ suc n → (repair_of g p w).class ≡ Good → Untouched (repair_of g p w)
  unfolding repair_of class_of walk_of walk_from
  good-untouched n d e =
      let t = good-tests (valid_image g p w.own) (eqb (image_lsn w.own) w.durable) (ltb w.durable (image_lsn w.own))
      (ltb (image_lsn w.own) w.written) e in
      let own : eqb (own_start g p w) (suc n) ≡ true = rw t.0 (eq-eqb (image_lsn w.own) (suc n) (eqb-true _ _ t.1 ∙ d)) in
      record { start = rw (d, own); count = rw (d, own) }

  untouched-good : (n : ℕ) → w.durable ≡ suc n → Untouched (repair_of g p w) → (repair_of g p w).class ≡ Good
  unfolding repair_of class_of walk_of walk_from step
  untouched-good n d u =
      let a = first_step (eqb (own_start g p w) (suc n)) (eqb (backup_start g p w) (suc n)) (ltb (suc n) w.first)
      (chain_record p (suc n) (w.log (suc n))) (is_format (record_of (w.log (suc n)))) (suc n)
      (walk_from n w.log w.first p (own_start g p w) (backup_start g p w) (record_of (w.log (suc n))).prev)
      (rw d at u.start) (rw d at u.count) in
      let o = own-number (valid_image g p w.own) (image_lsn w.own) (suc n) (omega arith) (eqb-true _ _ a) in
      rw (o.0, eq-eqb (image_lsn w.own) w.durable (o.1 ∙ sym d))

  pub good-is : 1 ≤ w.durable → ((repair_of g p w).class ≡ Good) ↔ Untouched (repair_of g p w)
  good-is l = go w.durable refl
    where
      go : (n : ℕ) → w.durable ≡ n → ((repair_of g p w).class ≡ Good) ↔ Untouched (repair_of g p w)
      go zero d = absurd (omega arith)
      go (suc n) d = (good-untouched n d, untouched-good n d)

-- ---- Load and Inspect

-- an answer that repairs is not a refusal, and its repair is the one computed
repaired-by : (t : Bool) (a r : Repair) (n : ℕ) → cond t (Repaired a) (Refused n) ≡ Repaired r → (t ≡ true) × (a ≡ r)
repaired-by true a r n e = (refl, cc)
repaired-by false a r n e = let z : ◌≡◌ {A = ℕ} 0 1 = cc in absurd (omega arith)

-- a page in no frame with a record has a durable one
entry-durable : (g : Geometry) (s : State) (p : ℕ) (e : Entry) → entry_fits g s p e ≡ true → held s p ≡ false → e.last ≢ 0 → 1 ≤ e.durable
unfolding entry_fits
entry-durable g s p e t h nz =
    let tests = leb e.last (last_number s) ∷ leb e.durable e.last ∷ leb e.durable s.durable ∷ leb e.written e.durable
    ∷ leb e.backup e.durable ∷ leb e.slot g.slots ∷ (held s p || eqb e.last e.durable) ∷ [] in
    let q : e.last ≡ e.durable = eqb-true _ _ (rw h at (all-at tests 6 t)) in
    omega arith

module _ (v m : List ℕ) (s : State) (p f : ℕ) where
  abbrev view : View
  view = state_view (geometry_of v) v s p

  pub load-repairs : (r : Repair) → (load_of v m s p f).answer ≡ Repaired r
      → (first_of (load_rows v m s p f) ≡ 0) × (repair_of (geometry_of v) p view ≡ r)
  unfolding decided load_done
  load-repairs r e =
      let no = first_of (load_rows v m s p f) in
      let q = repaired-by (eqb no 0) (repair_of (geometry_of v) p view) r no
      (by_cases (eqb no 0) (λ t. rw t (rw t at e)) (λ t. rw t (rw t at e))) in
      (eqb-true _ _ q.0, q.1)

  load-durable : first_of (load_rows v m s p f) ≡ 0 → 1 ≤ (entry_of s.index p).durable
  unfolding load_rows page_fits
  load-durable e =
      let g = geometry_of v in
      let rows : List Row = (not (within g.pages p), 3) ∷ (not (within (frame_count (length m)) f), 4) ∷ (blank s p, 7) ∷ (held s p, 9)
      ∷ (frame_blocked s f, 10) ∷ (chain_broken g v s p, 19) ∷ (chain_below g v s p, 23) ∷ [] in
      let k = ready v m s rows e in
      let none = none-at rows (omega arith) k.rest in
      let b = within-bounds g.pages p (not-false _ (none 0)) in
      let high : g.pages ≤ 64 = (valid-facts v k.volume).p-high in
      let fit = k.state.pages (p - 1) (omega (arith, b.0, b.1)) in
      let lt : ltb (p - 1) g.pages ≡ true = lt-ltb (p - 1) g.pages (omega (arith, b.0, b.1)) in
      let one : suc (p - 1) ≡ p = omega (arith, b.0) in
      entry-durable g s p (entry_of s.index p) (rw (lt, one) at fit) (none 3) (eqb-false _ _ (none 2))

  pub load_is : (r : Repair) → (load_of v m s p f).answer ≡ Repaired r → (r.class ≡ Good) ↔ Untouched r
  load_is r e =
      let q = load-repairs r e in
      subst (λ (y : Repair). (y.class ≡ Good) ↔ Untouched y) q.1 (good-is (geometry_of v) p view (load-durable q.0))

module _ (v : List ℕ) (p : ℕ) (buffer : List ℕ) where
  abbrev seen : View
  seen = scanned_view (geometry_of v) v p

  pub inspect-repairs : (r : Repair) → (inspect_of v p buffer).answer ≡ Repaired r
      → (first_of (inspect_rows v p (length buffer)) ≡ 0) × (repair_of (geometry_of v) p seen ≡ r)
  unfolding inspect_of
  inspect-repairs r e =
      let no = first_of (inspect_rows v p (length buffer)) in
      let q = repaired-by (eqb no 0) (repair_of (geometry_of v) p seen) r no
      (by_cases (eqb no 0) (λ t. rw t (rw t at e)) (λ t. rw t (rw t at e))) in
      (eqb-true _ _ q.0, q.1)

  inspect-durable : first_of (inspect_rows v p (length buffer)) ≡ 0 → 1 ≤ (entry_of (index_of (geometry_of v) v) p).durable
  unfolding inspect_rows
  inspect-durable e =
      let none = none-at (inspect_rows v p (length buffer)) (omega arith) e in
      let nz = eqb-false (entry_of (index_of (geometry_of v) v) p).durable 0 (none 5) in
      omega arith

  pub inspect-is : (r : Repair) → (inspect_of v p buffer).answer ≡ Repaired r → (r.class ≡ Good) ↔ Untouched r
  inspect-is r e =
      let q = inspect-repairs r e in
      subst (λ (y : Repair). (y.class ≡ Good) ↔ Untouched y) q.1 (good-is (geometry_of v) p seen (inspect-durable q.0))

pub health : Health
health = record { view = good-is; inspects = inspect-is; loads = load_is; failed = failed-is }
