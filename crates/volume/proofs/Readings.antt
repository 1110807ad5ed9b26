-- How the numbers that are read from a heading make up the geometry and the verdict on the volume.
use mathlib.Core.Path.{◌≡◌}
use mathlib.Core.Bool.{Bool, true, false, ◌&&◌}
use mathlib.Core.List.{List}
use Prim.Native.Nat.{ℕ}
use lib.Dec.{eqb}
use lib.ListN.{length}
use Rattle.model.specs.Bytes.{field, byte_at}
use Rattle.model.specs.Geometry.{known_magic, slot_count_at, record_count_at, note_count_at, length_for, geometry_of, valid_counts, valid_volume}
use Rattle.model.specs.declared.geometry.Geometry.{Geometry}

module _ (v : List ℕ) where
  pub geometry-read : (t p b l n : ℕ) → t ≡ byte_at v 3 → p ≡ field 4 4 v → b ≡ field 4 (slot_count_at p) v → l ≡ field 4 (record_count_at p b) v
      → n ≡ field 4 (note_count_at p b l) v
      → ◌≡◌ {A = Geometry} (record { tag = t; pages = p; slots = b; records = l; notes = n }) (geometry_of v)
  unfolding geometry_of
  geometry-read t p b l n et ep eb el en = cc

  -- counts and length decide where the heading is known, and nothing else does
  pub known_read : (c : Bool) (n : ℕ) (g : Geometry) → known_magic v ≡ true → g ≡ geometry_of v
      → c ≡ valid_counts g.pages g.slots g.records g.notes → n ≡ length_for g.pages g.slots g.records g.notes
      → (c && eqb (length v) n) ≡ valid_volume v
  unfolding valid_volume geometry_of
  known_read c n g ek eg ec en = rw (ek, ec, en, eg)

  pub unknown-read : known_magic v ≡ false → valid_volume v ≡ false
  unfolding valid_volume
  unknown-read e = rw e
