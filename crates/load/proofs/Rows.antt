-- Load's refusals: the code's tests come to the rows before the walk, and these with the walk's come to the table.
use mathlib.Core.Path.{◌≡◌, refl, sym, ◌∙◌}
use mathlib.Core.Bool.{cond}
use mathlib.Core.List.{List, []}
use Prim.Native.Nat.{ℕ}
use lib.Dec.{eqb}
use lib.ListN.{length}
use borrow.Author.Tests.{eqb-false, eqb-true, eq-eqb, ne_eqb}
use Rattle.laws.proofs.Tables.{Numbered, by_cases, when_true, when_false}
use Rattle.repair.proofs.Rows.{first_then}
use Rattle.state.proofs.Fits.{refusal-first, refusal-last}
use Rattle.model.specs.Tables.{Row, first_of}
use Rattle.model.specs.Geometry.{geometry_of}
use Rattle.model.specs.Repair.{walk_of, state_view}
use Rattle.model.specs.State.{frame_count}
use Rattle.model.specs.Refusals.{state_rows, load_rows, load_tail, walk_tail}
use Rattle.model.specs.declared.{geometry.Geometry.Geometry, state.State.State, answer.Stop.Stop}
use Rattle.model.specs.declared.answer.Stop.TheVariants.{Own, Backup, Format, Broken, Below}

-- Load's rows before the walk, with those of every call on the state
unfoldable pub early_rows : List ℕ → List ℕ → State → ℕ → ℕ → List Row
early_rows v m s page frame = state_rows v m s (load_tail (geometry_of v) (frame_count (length m)) s page frame)

-- the rows 1 and 2, then those
module _ (v m : List ℕ) (s : State) (n : ℕ) (e : n ≡ first_of (state_rows v m s [])) where
  pub early-first : (page frame : ℕ) → (n ≡ 0 → ⊥) → n ≡ first_of (early_rows v m s page frame)
  unfolding early_rows
  early-first page frame = refusal-first v m s (load_tail (geometry_of v) (frame_count (length m)) s page frame) n e

  pub early-rows : (g : Geometry) (size count page frame r : ℕ) → n ≡ 0 → g ≡ geometry_of v → count ≡ frame_count size
      → r ≡ first_of (load_tail g count s page frame)
      → length m ≡ size
      → r ≡ first_of (early_rows v m s page frame)
  unfolding early_rows
  early-rows g size count page frame r z eg ec er en =
      refusal-last v m s (load_tail (geometry_of v) (frame_count (length m)) s page frame) n r e z (er ∙ rw (ec, eg, ← en))

-- the rows behind the walk
pub walk-clean : (stop : Stop) → (stop ≡ Broken → ⊥) → (stop ≡ Below → ⊥) → first_of (walk_tail stop) ≡ 0
walk-clean Own b l = refl
walk-clean Backup b l = refl
walk-clean Format b l = refl
walk-clean Broken b l = absurd (b refl)
walk-clean Below b l = absurd (l refl)

none-first : (n rest : ℕ) → cond (eqb n 0) rest n ≡ 0 → n ≡ 0
none-first n rest h = by_cases (eqb n 0) (λ t. eqb-true n 0 t) (λ t. rw t at h)

module _ (v m : List ℕ) (s : State) (page frame : ℕ) where
  pub early-numbered : Numbered (early_rows v m s page frame)
  unfolding early_rows
  early-numbered = (
    eqb-false 1 0 refl,
    (
      eqb-false 2 0 refl,
      (
        eqb-false 2 0 refl,
        (eqb-false 3 0 refl, (eqb-false 4 0 refl, (eqb-false 7 0 refl, (eqb-false 9 0 refl, (eqb-false 10 0 refl, tt))))),
      ),
    ),
  )

  -- where the walk for the page stops
  abbrev pub stop_of : Stop
  stop_of =
      (walk_of (geometry_of v) page (state_view (geometry_of v) v s page)).stop

  whole : first_of (load_rows v m s page frame)
      ≡ cond (eqb (first_of (early_rows v m s page frame)) 0) (first_of (walk_tail stop_of)) (first_of (early_rows v m s page frame))
  unfolding load_rows early_rows
  whole = first_then (early_rows v m s page frame) (walk_tail stop_of) early-numbered

  -- a row before the walk refuses
  pub early-refuses : (n : ℕ) → n ≡ first_of (early_rows v m s page frame) → (n ≡ 0 → ⊥) → n ≡ first_of (load_rows v m s page frame)
  early-refuses n e ne = e ∙ sym (whole ∙ when_false _ _ (ne_eqb _ _ (λ z. ne (e ∙ z))))

  pub early-none : first_of (load_rows v m s page frame) ≡ 0 → first_of (early_rows v m s page frame) ≡ 0
  early-none z = none-first (first_of (early_rows v m s page frame)) (first_of (walk_tail stop_of)) (sym whole ∙ z)

  -- only the walk may refuse
  pub walk-decides : first_of (early_rows v m s page frame) ≡ 0 → first_of (load_rows v m s page frame) ≡ first_of (walk_tail stop_of)
  walk-decides e = whole ∙ when_true _ _ (eq-eqb _ _ e)
