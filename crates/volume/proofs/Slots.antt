-- A valid volume has a log, and each of its items lies within it.
use mathlib.Core.Path.{◌≡◌}
use mathlib.Core.Bool.{true}
use mathlib.Core.List.{List}
use Prim.Native.Nat.{ℕ, ◌+◌, ◌-◌, ◌%◌, ◌≤◌, ◌<◌}
use native.Mathlib.Nat.{mod-lt}
use native.Mathlib.Omega.{arith}
use lib.ListN.{length}
use Rattle.laws.proofs.Tables.{by_cases}
use Rattle.laws.proofs.Places.{total, valid-facts, place-fits}
use Rattle.model.specs.Geometry.{ring, most, most_notes, top_number, start, page_at, slot_at, log_slot, note_slot, geometry_of, valid_volume}
use Rattle.model.specs.declared.geometry.Geometry.{Geometry}

module _ (v : List ℕ) (g : Geometry) (valid : valid_volume v ≡ true) (eg : g ≡ geometry_of v) where
  pub records-some : 1 ≤ g.records
  records-some = rw eg (valid-facts v valid).l-low

  pub records-few : g.records ≤ 1024
  records-few = rw eg (valid-facts v valid).l-high

  pub notes-few : g.notes ≤ 1024
  notes-few = rw eg (valid-facts v valid).n-high

  pub most-high : most g ≤ top_number
  most-high = by_cases (ring g) (λ t. rw t (omega arith)) (λ t. rw t (omega (arith, records-few)))

  pub most-notes-high : most_notes g ≤ top_number
  most-notes-high = by_cases (ring g) (λ t. rw t (omega arith)) (λ t. rw t (omega (arith, notes-few)))

  size : length v ≡ total g
  size = rw eg (valid-facts v valid).size

  pub record-fits : (n : ℕ) → start g (log_slot g n) + 64 ≤ length v
  record-fits n =
      let m : (n - 1) % g.records < g.records = mod-lt (n - 1) records-some in
      place-fits g v size (log_slot g n) (omega arith, omega arith)

  pub note-fits : 1 ≤ g.notes → (n : ℕ) → start g (note_slot g n) + 16 ≤ length v
  note-fits some n =
      let m : (n - 1) % g.notes < g.notes = mod-lt (n - 1) some in
      place-fits g v size (note_slot g n) (omega arith, omega arith)

  pub page-fits : (i : ℕ) → 1 ≤ i → i ≤ g.pages → start g (page_at i) + 256 ≤ length v
  page-fits i low high = place-fits g v size (page_at i) (low, high)

  pub slot-fits : (i : ℕ) → 1 ≤ i → i ≤ g.slots → start g (slot_at i) + 256 ≤ length v
  slot-fits i low high = place-fits g v size (slot_at i) (low, high)
