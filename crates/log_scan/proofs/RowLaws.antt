-- Laws of rows: a page has one of 64, and the column of last numbers is set where the index is.
use Prim.Native.Nat.{ℕ, zero, suc, ◌-◌, ◌≤◌, ◌<◌}
use mathlib.Core.Path.{◌≡◌, refl, ap}
use mathlib.Core.List.{List, [], ◌∷◌, map}
use native.Mathlib.Omega.{arith}
use lib.Dec.{leb, lit<}
use lib.ListN.{set, replicate}
use borrow.Author.Tests.{le-leb, leb-true}
use Rattle.laws.proofs.Tables.{by_cases, when_true}
use Rattle.model.specs.Index.{empty_index}
use Rattle.model.specs.Scan.{log_index}
use Rattle.model.specs.declared.geometry.Geometry.{Geometry}
use Rattle.model.specs.declared.state.Entry.{Entry}
use Rattle.log_scan.specs.Rows.{row_of, lasts}

-- ---- a page's row

pub row_below : (p : ℕ) → row_of p < 64
unfolding row_of
row_below p =
    by_cases (leb p 64) (λ t. let h : p ≤ 64 = leb-true p 64 t in rw t (omega arith)) (λ t. rw t (lit< tt))

pub row_is : (p : ℕ) → p ≤ 64 → row_of p ≡ p - 1
unfolding row_of
row_is p h = when_true _ _ (le-leb p 64 h)

-- ---- a column

-- an entry set in the index is its field set in the column
pub column-set : (f : Entry → ℕ) (l : List Entry) (i : ℕ) (x : Entry) → map f (set l i x) ≡ set (map f l) i (f x)
column-set f [] i x = refl
column-set f (y ∷ l) zero x = refl
column-set f (y ∷ l) (suc i) x = ap (λ (r : List ℕ). f y ∷ r) (column-set f l i x)

-- before the first record
pub log-none : (g : Geometry) (v : List ℕ) (f : ℕ) → lasts (log_index g v f 0) ≡ replicate 64 0
unfolding log_index empty_index
log-none g v f = refl
