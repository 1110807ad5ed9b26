-- Laws of a page's backup as a start, and of where the run starts once a quarter of the log more is stored.
use mathlib.Core.Path.{◌≡◌, ◌∙◌}
use mathlib.Core.Bool.{Bool, true, ◌&&◌}
use mathlib.Core.List.{List}
use Prim.Native.Nat.{ℕ, suc, ◌+◌, ◌-◌, ◌/◌, ◌≤◌, ◌<◌}
use native.Mathlib.Omega.{arith}
use lib.Dec.{eqb}
use borrow.Author.Tests.{eq-eqb, ne_eqb, le-leb, lt-leb}
use Rattle.model.specs.Geometry.{slot_at, item}
use Rattle.model.specs.Item.{image_lsn, valid_image}
use Rattle.model.specs.Scan.{first_held}
use Rattle.model.specs.declared.{geometry.Geometry.Geometry, state.Entry.Entry}
use Rattle.mend_policy.specs.Mend.{stands}
use Rattle.mend.specs.Parts.{start_at}

-- the backup
module _ (v : List ℕ) (g : Geometry) (e : Entry) (p : ℕ) where
  pub stands-none : e.slot ≡ 0 → true ≡ stands g v e p
  stands-none z = rw (eq-eqb e.slot 0 z)

  pub stands-some : (e.slot ≡ 0 → ⊥) → (x : List ℕ) (b : Bool) → x ≡ item g v (slot_at e.slot)
      → b ≡ (valid_image g p x && eqb (image_lsn x) e.backup) → b ≡ stands g v e p
  stands-some z x b x-is b-is = b-is ∙ rw (ne_eqb e.slot 0 z, x-is)

-- the run's start
module _ (v : List ℕ) (g : Geometry) (d first later : ℕ) (ef : first ≡ first_held g v d)
    (el : later ≡ d + g.records / 4 + 1 - g.records) where
  same : later ≡ suc (d + g.records / 4) - g.records
  same = omega (arith, el)

  pub start-later : first ≤ later → later ≡ start_at g v d
  start-later h = rw (← ef, ← same, le-leb first later h)

  pub start_first : later < first → first ≡ start_at g v d
  start_first h = rw (← ef, ← same, lt-leb first later h)
