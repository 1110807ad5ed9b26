-- What a step leaves alone: the log and the notes, where an image is stored or nothing is; and what the index says of
-- written notes and backups.
use mathlib.Core.Path.{◌≡◌, refl, sym, ap, ◌∙◌}
use mathlib.Core.List.{List, [], ◌∷◌}
use Prim.Native.Nat.{ℕ, zero, suc, ◌≤◌}
use native.Mathlib.Omega.{arith}
use lib.ListN.{length, get_or, set}
use Rattle.model.specs.Geometry.{page_at, slot_at, record_at, note_at, item, store}
use Rattle.model.specs.Index.{empty_entry, entry_of}
use Rattle.model.specs.declared.{geometry.Geometry.Geometry, state.Entry.Entry, state.State.State}
use Rattle.history.proofs.Sections.{Volume, store_other}
use Rattle.upkeep_theory.proofs.Shift.{MoreMarks}

-- ---- images: stores that touch neither log nor notes

pub record Apart (g : Geometry) (v v' : List ℕ) : Type 0 where
  pub records : (j : ℕ) → 1 ≤ j → j ≤ g.records → item g v' (record_at j) ≡ item g v (record_at j)
  pub notes : (j : ℕ) → 1 ≤ j → j ≤ g.notes → item g v' (note_at j) ≡ item g v (note_at j)

pub apart_none : (g : Geometry) (v : List ℕ) → Apart g v v
apart_none g v = record { records = λ j a b. refl; notes = λ j a b. refl }

pub apart-page : (g : Geometry) (v : List ℕ) → Volume g v → (p : ℕ) → 1 ≤ p → p ≤ g.pages → (xs : List ℕ)
    → length xs ≡ 256
    → Apart g v (store g v (page_at p) xs)
apart-page g v vol p lo hi xs e =
    record {
      records = λ j a b. store_other g v vol (page_at p) xs (lo, hi) e (record_at j) (a, b) (omega arith);
      notes = λ j a b. store_other g v vol (page_at p) xs (lo, hi) e (note_at j) (a, b) (omega arith);
    }

pub apart-slot : (g : Geometry) (v : List ℕ) → Volume g v → (p : ℕ) → 1 ≤ p → p ≤ g.slots → (xs : List ℕ)
    → length xs ≡ 256
    → Apart g v (store g v (slot_at p) xs)
apart-slot g v vol p lo hi xs e =
    record {
      records = λ j a b. store_other g v vol (slot_at p) xs (lo, hi) e (record_at j) (a, b) (omega arith);
      notes = λ j a b. store_other g v vol (slot_at p) xs (lo, hi) e (note_at j) (a, b) (omega arith);
    }

-- ---- marks

-- a field that an entry keeps is kept by the index
pub field-set : (f : Entry → ℕ) (l : List Entry) (i : ℕ) (x : Entry) → f x ≡ f (get_or l i empty_entry) → (j : ℕ)
    → f (get_or (set l i x) j empty_entry) ≡ f (get_or l j empty_entry)
field-set f [] i x e j = refl
field-set f (y ∷ ys) zero x e zero = e
field-set f (y ∷ ys) zero x e (suc j) = refl
field-set f (y ∷ ys) (suc i) x e zero = refl
field-set f (y ∷ ys) (suc i) x e (suc j) = field-set f ys i x e j

-- the marks of two states are the same
pub record SameMarks (g : Geometry) (s s' : State) : Type 0 where
  pub slot : (p : ℕ) → 1 ≤ p → p ≤ g.pages → (entry_of s'.index p).slot ≡ (entry_of s.index p).slot
  pub backup : (p : ℕ) → 1 ≤ p → p ≤ g.pages → (entry_of s'.index p).backup ≡ (entry_of s.index p).backup
  pub written : (p : ℕ) → 1 ≤ p → p ≤ g.pages → (entry_of s'.index p).written ≡ (entry_of s.index p).written

pub marks-index : (g : Geometry) (s s' : State) → s'.index ≡ s.index → SameMarks g s s'
marks-index g s s' e =
    record {
      slot = λ p a b. ap (λ (l : List Entry). (entry_of l p).slot) e;
      backup = λ p a b. ap (λ (l : List Entry). (entry_of l p).backup) e;
      written = λ p a b. ap (λ (l : List Entry). (entry_of l p).written) e;
    }

pub more-marks : (g : Geometry) (s s' : State) → SameMarks g s s' → MoreMarks g.pages s s'
more-marks g s s' w =
    record { slot = λ p a b nz z. nz (sym (w.slot p a b) ∙ z); backup = λ p a b. omega (arith, w.backup p a b) }

pub more-back : (g : Geometry) (s s' : State) → SameMarks g s s' → MoreMarks g.pages s' s
more-back g s s' w =
    record { slot = λ p a b nz z. nz (w.slot p a b ∙ z); backup = λ p a b. omega (arith, w.backup p a b) }
