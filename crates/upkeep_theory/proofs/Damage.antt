-- T2's invariant under damage, which changes images alone.
use mathlib.Core.Path.{◌≡◌, refl, ap, ◌∙◌}
use mathlib.Core.Bool.{true, ◌||◌, not}
use mathlib.Core.List.{List, [], ◌∷◌}
use Prim.Native.Nat.{ℕ, suc, ◌+◌, ◌≤◌}
use native.Mathlib.Omega.{arith}
use lib.Dec.{eqb}
use lib.ListN.{length, drop}
use borrow.Author.Tests.{eqb-true}
use Rattle.laws.proofs.Tables.{all-at, within-bounds, true-not-false}
use Rattle.laws.proofs.Parts.{drop-from, drop_past}
use Rattle.laws.proofs.Scans.{count_same, notes-same, index-of-same}
use Rattle.model.specs.Bytes.{splice}
use Rattle.model.specs.Geometry.{Place, page_at, slot_at, record_at, note_at, geometry_of, start, store, slot_of}
use Rattle.model.specs.Passes.{is_image, passes_at}
use Rattle.model.specs.Item.{note_of}
use Rattle.model.specs.Scan.{note_record, index_of}
use Rattle.model.specs.Outcome.{StoredItem}
use Rattle.model.specs.Restart.{restart_state}
use Rattle.model.specs.AbstractLog.{AbstractLog}
use Rattle.model.specs.History.{Power, off, on, damage_fits, stored_before}
use Rattle.model.specs.declared.{geometry.Geometry.Geometry, state.State.State}
use Rattle.laws.proofs.Ring.{slot-in}
use Rattle.history.proofs.Sections.{Volume, volume-size, volume-store}
use Rattle.history.proofs.Inv.{Inv}
use Rattle.upkeep_theory.proofs.Shift.{note-same}
use Rattle.upkeep_theory.proofs.Tidy.{Tidy}
use Rattle.upkeep_theory.proofs.Apart.{Apart, apart-page, apart-slot, marks-index}
use Rattle.upkeep_theory.proofs.TidySteps.{still}

abbrev pub TidyAt : Geometry → Power → List ℕ → ℕ → Type 0
TidyAt g off v cuts = Tidy g v (restart_state v) cuts
TidyAt g (on m s) v cuts = Tidy g v s cuts

module _ (g : Geometry) (v : List ℕ) (vol : Volume g v) (l2 : 2 ≤ g.records) (n2 : 2 ≤ g.notes) where
  pub apart-tidy : (s : State) (cuts : ℕ) → Tidy g v s cuts → (v' : List ℕ) → Apart g v v' → Tidy g v' s cuts
  apart-tidy s cuts t v' ap' =
      let one : 1 ≤ g.notes = omega arith in
      (still g v vol s l2 n2 cuts t v' ap' s (marks-index g s s refl) refl refl refl refl t.b t.sums.b-one
      (omega arith)
      (λ h.
      let y = t.busy h in
      let r : note_record g v' (suc y.place) ≡ note_record g v (suc y.place) =
      ap note_of (let q = slot-in g.notes y.place one in
      ap'.notes (slot_of g.notes (suc y.place)) q.0 q.1) in
      record {
        place = y.place;
        second = y.second;
        needed = note-same g v vol one v' s.notes y.place (omega (arith, y.second)) ap'.notes ∙ y.needed;
        written = rw r y.written;
        live = rw r y.live;
      })).0

  -- an image that is stored leaves what a Restart gives
  module _ (at : Place) (xs : List ℕ) (five : length xs ≡ 256) (fits : start g at + 256 ≤ start g (record_at 1))
      (vol' : Volume g (store g v at xs)) where
    tail : drop (start g (record_at 1)) (store g v at xs) ≡ drop (start g (record_at 1)) v
    unfolding store
    tail = drop-from (start g at + length xs) (start g (record_at 1)) (splice v (start g at) xs) v (omega arith)
        (drop_past v (start g at) xs (omega (arith, volume-size g v vol)))

    pub restart-same : restart_state (store g v at xs) ≡ restart_state v
    unfolding restart_state
    restart-same = rw (
      vol'.geo,
      vol.geo,
      index-of-same g v (store g v at xs) tail,
      count_same g v (store g v at xs) tail,
      notes-same g v (store g v at xs) tail,
    )

module _ (g : Geometry) (l2 : 2 ≤ g.records) (n2 : 2 ≤ g.notes) where
  damaged : (v : List ℕ) → Volume g v → (at : Place) (xs : List ℕ) → is_image g at ≡ true → length xs ≡ 256
      → Apart g v (store g v at xs) × (restart_state (store g v at xs) ≡ restart_state v)
  damaged v vol (page_at p) xs o five =
      let w = within-bounds g.pages p o in (
        apart-page g v vol p w.0 w.1 xs five,
        restart-same g v vol l2 n2 (page_at p) xs five (omega arith) (volume-store g v vol (page_at p) xs w five),
      )
  damaged v vol (slot_at p) xs o five =
      let w = within-bounds g.slots p o in (
        apart-slot g v vol p w.0 w.1 xs five,
        restart-same g v vol l2 n2 (slot_at p) xs five (omega arith) (volume-store g v vol (slot_at p) xs w five),
      )
  damaged v vol (record_at p) xs o five = absurd (true-not-false o refl)
  damaged v vol (note_at p) xs o five = absurd (true-not-false o refl)

  damage-at : (y : Power) (v : List ℕ) → Volume g v → (cuts : ℕ) → TidyAt g y v cuts → (at : Place) (xs : List ℕ)
      → is_image g at ≡ true → length xs ≡ 256
      → TidyAt g y (store g v at xs) cuts
  damage-at off v vol cuts t at xs o five =
      let d = damaged v vol at xs o five in
      rw d.1 (apart-tidy g v vol l2 n2 (restart_state v) cuts t (store g v at xs) d.0)
  damage-at (on m s) v vol cuts t at xs o five =
      let d = damaged v vol at xs o five in apart-tidy g v vol l2 n2 s cuts t (store g v at xs) d.0

  pub hurt : (v : List ℕ) (y : Power) (past : List StoredItem) (b : AbstractLog) → Inv ⊥ g v past y b → (cuts : ℕ)
      → TidyAt g y v cuts
      → (at : Place) (xs : List ℕ) → damage_fits (record { volume = v; power = y; past = past }) at xs ≡ true
      → TidyAt g y (store (geometry_of v) v at xs) cuts
  hurt v y past b i cuts t at xs a =
      let e = i.holds.vol.geo in
      let tests = is_image (geometry_of v) at ∷ eqb (length xs) 256
      ∷ (not (passes_at (geometry_of v) (index_of (geometry_of v) v) at xs) || stored_before at xs past) ∷ [] in
      let im : is_image g at ≡ true = rw e at (all-at tests 0 a) in
      rw e (damage-at y v i.holds.vol cuts t at xs im (eqb-true (length xs) 256 (all-at tests 1 a)))
