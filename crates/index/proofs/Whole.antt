-- Laws of the whole scan: what its sections come to, refusal by refusal, and what a clean one gives.
use mathlib.Core.Path.{◌≡◌, refl, sym, ap, ◌∙◌}
use mathlib.Core.Bool.{Bool, true, false, not, ◌&&◌}
use mathlib.Core.List.{List, [], ◌∷◌}
use Prim.Native.Nat.{ℕ, suc, ◌-◌}
use Rattle.laws.proofs.Tables.{and_left}
use Rattle.log_scan.proofs.Located as placed
use Rattle.model.specs.Tables.{first_of}
use Rattle.model.specs.Geometry.{geometry_of, valid_volume}
use Rattle.model.specs.Scan.{valid_log, durable_count, first_held, indexed_run, valid_notes, note_count, first_note}
use Rattle.model.specs.declared.{geometry.Geometry.Geometry}
use Rattle.log_scan.specs.Rows.{lasts}
use Rattle.index_rows.specs.declared.columns.Columns.{Columns}
use Rattle.index_rows.specs.Columns.{Noted, ColumnsOf, columns_ordered, Unwritten}
use Rattle.log_scan.specs.LogSection.{Sized, log_run}
use Rattle.index.specs.NoteSection.{note_run, noted_index, notes_fit}
use Rattle.std.specs.Prelude.{Ok, Err}
use Rattle.model.specs.Refused.{refusal_number}
use Rattle.model.specs.declared.answer.Refusal.{Refusal}
use Rattle.index.specs.Filled.{Filled}
use Rattle.index.specs.Scanned.{scan_rows, scan_refusal}
use Rattle.section.specs.declared.Run.{Run}
use Rattle.index_rows.proofs.ColumnLaws.{log-durable, note-last, note-durable, ordered-is}
use Rattle.index.proofs.NotePass.{notes-valid}
use Rattle.index.proofs.PastPages.{unwritten}

-- the scan's number, by the tests that were made
scan-from : (v : List ℕ) (a b c : Bool) → valid_volume v ≡ a → valid_log (geometry_of v) v ≡ b → valid_notes (geometry_of v) v ≡ c
    → scan_refusal v ≡ first_of ((not a, 1) ∷ (not b, 17) ∷ (not c, 18) ∷ [])
unfolding scan_rows
scan-from v a b c ea eb ec = rw (ea, eb, ec)

-- a volume whose heading, log and notes are right is scanned without refusal
pub clean : (v : List ℕ) → valid_volume v ≡ true → valid_log (geometry_of v) v ≡ true → valid_notes (geometry_of v) v ≡ true → scan_refusal v ≡ 0
clean v a b c = scan-from v true true true a b c

pub volume-refused : (v : List ℕ) → valid_volume v ≡ false → scan_refusal v ≡ 1
volume-refused v h = scan-from v false _ _ h refl refl

-- a scan that is refused
pub refused : (v : List ℕ) (r : Refusal) (c : Columns) → scan_refusal v ≡ refusal_number r → Filled v (Err r) c
refused v r c h = record { refusal = sym h; counts = tt; columns = tt }

module _ (v : List ℕ) (ok : valid_volume v ≡ true) (g : Geometry) (eg : g ≡ geometry_of v) where
  pub sized : Sized g v
  sized = placed.sized g v ok eg

  module _ (s : Bool) (es : s ≡ valid_log g v) where
    log-valid : s ≡ valid_log (geometry_of v) v
    log-valid = es ∙ ap (λ (x : Geometry). valid_log x v) eg

    pub log-refused : s ≡ false → scan_refusal v ≡ 17
    log-refused h = scan-from v true false _ ok (sym log-valid ∙ h) refl

    module _ (h : s ≡ true) (c : Columns) (l : s ≡ true → c.last ≡ lasts (indexed_run g v)) (k : Bool)
        (ek : k ≡ notes_fit g v) (n : k ≡ true → Noted (noted_index g v) c) (o : Bool)
        (eo : Unwritten g.pages c.written → o ≡ columns_ordered c) where
      columns-are : k ≡ true → ColumnsOf (noted_index g v) c
      columns-are t =
          let f = first_note g v (note_count g v) in
          let m = suc (note_count g v) - f in
          let d = first_held g v (durable_count g v) in
          record {
            last-is = note-last g v f m ∙ sym (l h);
            durable-is = note-durable g v f m ∙ log-durable g v d (suc (durable_count g v) - d) ∙ sym (l h);
            noted = n t;
          }

      notes-are : (t : Bool) → k ≡ t → (t && o) ≡ valid_notes (geometry_of v) v
      notes-are false e = sym (ap (λ (x : Geometry). valid_notes x v) (sym eg) ∙ notes-valid g v ∙ rw (← ek, e))
      notes-are true e =
          let q = eo (unwritten g v c (sym ek ∙ e) (n e)) ∙ ordered-is (noted_index g v) c (columns-are e) in
          sym (ap (λ (x : Geometry). valid_notes x v) (sym eg) ∙ notes-valid g v ∙ rw (← ek, e) (sym q))

      decided : (k && o) ≡ valid_notes (geometry_of v) v
      decided = notes-are k refl

      pub notes-refused : (k && o) ≡ false → scan_refusal v ≡ 18
      notes-refused f = scan-from v true true false ok (sym log-valid ∙ h) (sym decided ∙ f)

      -- a clean scan, and what two passes count
      pub scan-clean : (k && o) ≡ true → (a b : Run) → a ≡ log_run g v → b ≡ note_run g v
          → Filled v (Ok (record { first = a.first; durable = a.count; notes = b.count })) c
      scan-clean t a b ea eb =
          record {
            refusal = sym (clean v ok (sym log-valid ∙ h) (sym decided ∙ t));
            counts = rw (ea, eb, eg);
            columns = rw (← eg) (columns-are (and_left k o t));
          }
