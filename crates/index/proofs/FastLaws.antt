-- Laws of the scan in one pass each: what clean sweeps of the log and of the notes come to.
use mathlib.Core.Path.{◌≡◌, refl, sym, ◌∙◌}
use mathlib.Core.Bool.{Bool, true, false}
use mathlib.Core.List.{List}
use Prim.Native.Nat.{ℕ, ◌-◌}
use native.Mathlib.Omega.{arith}
use Rattle.model.specs.Geometry.{geometry_of, valid_volume}
use Rattle.model.specs.Scan.{durable_count, note_count}
use Rattle.model.specs.declared.geometry.Geometry.{Geometry}
use Rattle.std.specs.Prelude.{Ok, Err}
use Rattle.model.specs.declared.answer.Refusal.TheVariants.{BadNotes}
use Rattle.index_rows.specs.declared.columns.Columns.{Columns}
use Rattle.index_rows.specs.Columns.{columns_ordered, Unwritten}
use Rattle.index.specs.Filled.{Filled, swept_counts}
use Rattle.log_scan.specs.LogSection.{log_run}
use Rattle.index.specs.NoteSection.{note_run}
use Rattle.log_scan.specs.LogSwept.{LogSwept}
use Rattle.index.specs.NotesSwept.{NotesSwept}
use Rattle.index.specs.declared.Counts.{Counts}
use Rattle.index.proofs.Whole.{refused, notes-refused, scan-clean}

module _ (v : List ℕ) (ok : valid_volume v ≡ true) (g : Geometry) (eg : g ≡ geometry_of v) (f next k : ℕ) (c : Columns)
    (l : LogSwept g v f next c.last) (n : NotesSwept g v k c) (o : Bool) (eo : Unwritten g.pages c.written → o ≡ columns_ordered c) where
  pub fast-refused : o ≡ false → Filled v (Err BadNotes) c
  fast-refused h =
      refused v BadNotes c
      (notes-refused v ok g eg true (sym l.valid) refl c (λ t. l.last-is) true (sym n.fit) (λ t. n.noted) o eo h)

  -- the runs that two passes would find
  runs : Counts
  runs = record { first = (log_run g v).first; durable = (log_run g v).count; notes = (note_run g v).count }

  counts-are : swept_counts g f next k ≡ runs
  unfolding runs
  counts-are =
      let d : next - 1 ≡ durable_count g v = omega (arith, l.held.count) in
      let m : k - 1 ≡ note_count g v = omega (arith, n.count) in
      λ i. record { first = sym l.held.first i; durable = d i; notes = m i }

  pub fast-clean : (r : Counts) → r ≡ swept_counts g f next k → o ≡ true → Filled v (Ok r) c
  unfolding runs
  fast-clean r e h =
      rw (e ∙ counts-are)
      (scan-clean v ok g eg true (sym l.valid) refl c (λ t. l.last-is) true (sym n.fit) (λ t. n.noted) o eo h
      (log_run g v) (note_run g v) refl refl)
