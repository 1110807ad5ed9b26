-- What a page's repair may read of its volume, and the numbers at which a walk may stop at the own image and at the backup.
use Prim.Native.Nat.{ℕ, zero, suc, ◌≤◌}
use mathlib.Core.Path.{◌≡◌, refl, sym, ◌∙◌, subst}
use mathlib.Core.Bool.{true, false, ◌&&◌}
use mathlib.Core.List.{List}
use native.Mathlib.Omega.{arith}
use lib.Dec.{eqb}
use lib.ListN.{length}
use borrow.Author.Tests.{eq-eqb, ne_eqb}
use Rattle.laws.proofs.Tables.{by_cases, cond_same}
use Rattle.laws.proofs.Places.{total, valid-facts}
use Rattle.model.specs.Geometry.{geometry_of, valid_volume, slot_at, item}
use Rattle.model.specs.Bytes.{field}
use Rattle.model.specs.Checksum.{image_sealed}
use Rattle.model.specs.Item.{image_lsn, valid_image}
use Rattle.model.specs.Repair.{view_of, backup_start}
use Rattle.model.specs.declared.{geometry.Geometry.Geometry, state.Entry.Entry}

pub positive : (n : ℕ) → (n ≡ 0 → ⊥) → 1 ≤ n
positive zero f = absurd (f refl)
positive (suc n) f = omega arith

-- ---- places

pub record Sized (g : Geometry) (v : List ℕ) : Type 0 where
  pub size : length v ≡ total g
  pub pages : g.pages ≤ 64
  pub some : 1 ≤ g.records
  pub records : g.records ≤ 1024

pub sized : (v : List ℕ) (g : Geometry) → valid_volume v ≡ true → g ≡ geometry_of v → Sized g v
sized v g ok e =
    let f = valid-facts v ok in
    subst (λ (k : Geometry). Sized k v) (sym e) (record { size = f.size; pages = f.p-high; some = f.l-low; records = f.l-high })

-- ---- an image judged by a cheap test first

-- an image of another page is not valid
pub valid-other : (g : Geometry) (p : ℕ) (x : List ℕ) (k : ℕ) → k ≡ field 2 0 x → (k ≡ p → ⊥) → false ≡ valid_image g p x
unfolding valid_image
valid-other g p x k e ne =
    let z : eqb (field 2 0 x) p ≡ false = ne_eqb (field 2 0 x) p (λ q. ne (e ∙ q)) in
    rw z (by_cases (image_sealed g x) (λ t. rw t) (λ t. rw t))

-- ---- the backup's number

-- the backup that counts, where the slot is 0
pub slot-none : (v : List ℕ) (g : Geometry) (f : ℕ) (e : Entry) (p : ℕ) → e.slot ≡ 0 → 0 ≡ backup_start g p (view_of g v f e p)
slot-none v g f e p z =
    let b : eqb e.slot 0 ≡ true = eq-eqb e.slot 0 z in
    rw b (sym (cond_same (valid_image g p (item g v (slot_at e.slot)) && eqb (image_lsn (item g v (slot_at e.slot))) 0) 0))

-- where a walk can stop at the backup, its slot is not 0
pub backup-some : (v : List ℕ) (g : Geometry) (f : ℕ) (e : Entry) (p : ℕ) → 1 ≤ backup_start g p (view_of g v f e p) → e.slot ≡ 0 → ⊥
backup-some v g f e p h z = let q = slot-none v g f e p z in omega arith
