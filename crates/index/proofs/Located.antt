-- A section's counts, starts and ends are those that the scan's definitions ask for, of the notes.
use mathlib.Core.Path.{◌≡◌, sym, ap, ◌∙◌}
use mathlib.Core.Bool.{true}
use mathlib.Core.List.{List}
use Prim.Native.Nat.{ℕ, suc, ◌+◌, ◌-◌, ◌*◌, ◌%◌, ◌≤◌}
use native.Mathlib.Omega.{arith}
use native.Mathlib.Decide.{ℕ_discrete}
use Rattle.laws.proofs.Tables.{by_cases}
use Rattle.laws.proofs.Scanned.{first-low}
use Rattle.laws.proofs.Checksums.{run_none, run-sealed}
use Rattle.model.specs.Bytes.{part}
use Rattle.model.specs.Checksum.{sealed}
use Rattle.model.specs.Geometry.{ring, note_at, start, item, note_slot, slot_of}
use Rattle.model.specs.Scan.{highest, count_in, first_in, note_slots, note_count, first_note}
use Rattle.model.specs.Scan as scan
use Rattle.model.specs.declared.geometry.Geometry.{Geometry}
use Rattle.log_scan.specs.LogSection.{Sized}
use Rattle.index.specs.NoteSection.{note_section, note_run}
use Rattle.section.specs.Section.{Placed, slot_bytes, slots_in, front_in, run_in}
use Rattle.section.specs.declared.Extent.{Extent}
use Rattle.section.specs.declared.Run.{Run}

module _ (g : Geometry) (v : List ℕ) where
  pub note-slot : (i : ℕ) → slot_bytes v (note_section g) i ≡ item g v (note_at (suc i))
  unfolding item
  note-slot i = let e : start g (note_at 1) + (12 + 4) * i ≡ start g (note_at (suc i)) = omega arith in ap (λ (k : ℕ). part v k 16) e

  -- the slot of number n, as a run's scan comes to it
  module _ (s : Extent) (n slot : ℕ) (r : List ℕ) (er : r ≡ slot_bytes v s slot) where
    pub note-here : s ≡ note_section g → slot ≡ (n - 1) % g.notes → r ≡ item g v (note_slot g n)
    note-here es e = er ∙ ap (λ (x : Extent). slot_bytes v x slot) es ∙ ap (slot_bytes v (note_section g)) e ∙ note-slot ((n - 1) % g.notes)

  -- the code's section is the definitions'
  pub note-section : slots_in v (note_section g) ≡ note_slots g v
  unfolding item
  note-section = λ i. record {
    ring = ring g;
    size = 12;
    slots = g.notes;
    at = start g (note_at 1);
    slot = λ n. let e : start g (note_at 1) + (12 + 4) * (n - 1) ≡ start g (note_at n) = omega arith in part v (e i) 16;
  }

  -- the runs as they are found
  run_of : scan.Section → ℕ → Run
  run_of x front = record { first = first_in x (count_in v x); count = count_in v x; front = front }

  pub note-run : (s : Extent) → s ≡ note_section g → (r : Run) → r ≡ run_in v s → r ≡ note_run g v
  unfolding run_of note_count first_note
  note-run s es r er = er ∙ ap (run_in v) es ∙ ap (λ (x : scan.Section). run_of x (front_in v (note_section g))) note-section

  -- a number's slot at the front is whole
  pub note-known : (n : ℕ) → slot_of g.notes n ≤ front_in v (note_section g) → sealed 12 (item g v (note_slot g n)) ≡ true
  note-known n h = ap (sealed 12) (sym (note-slot ((n - 1) % g.notes)))
      ∙ run-sealed 12 v g.notes (start g (note_at 1)) ((n - 1) % g.notes) h

  module _ (s : Sized g v) where
    pub note-placed : Placed v (note_section g)
    note-placed = record { room = omega (arith, s.size); short = omega arith; few = s.notes; none = λ z. omega (arith, s.size) }

  -- the run of notes starts at 1 or later
  pub first-note-low : (n : ℕ) → 1 ≤ first_note g v n
  unfolding first_note
  first-note-low n = first-low (note_slots g v) n

  -- where there is a note, there is a slot for it
  pub notes-some : 1 ≤ note_count g v → 1 ≤ g.notes
  unfolding note_count count_in highest
  notes-some h = elim (ℕ_discrete g.notes 0) [
    | yes z ↦ let e : note_count g v ≡ 0 = by_cases (ring g) (λ t. rw (t, z)) (λ t. rw (t, z) (run_none 12 v (start g (note_at 1)))) in
        absurd (omega arith)
    | no z ↦ omega arith
  ]
