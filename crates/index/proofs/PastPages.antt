-- Rows past a volume's pages: notes that keep the rule leave nothing in them.
use Prim.Native.Nat.{ℕ, zero, suc, ◌+◌, ◌-◌, ◌≤◌}
use mathlib.Core.Path.{◌≡◌, sym, ap, ◌∙◌}
use mathlib.Core.Bool.{Bool, true, ◌||◌}
use mathlib.Core.List.{List, [], ◌∷◌}
use native.Mathlib.Omega.{arith}
use native.Mathlib.Decide.{dec_lt}
use lib.Dec.{eqb, ltb}
use lib.ListN.{get_or, replicate, length-replicate, get_or-eq_default, get_or-replicate}
use lib.Seq.{get_or-set_other}
use Rattle.laws.proofs.Tables.{all-at, and_left, and_right, within-bounds}
use Rattle.model.specs.Tables.{every, within}
use Rattle.model.specs.Checksum.{sealed}
use Rattle.model.specs.Geometry.{note_slot, item}
use Rattle.model.specs.Item.{note_layout}
use Rattle.model.specs.Index.{entry_of, with_note, enter_note}
use Rattle.model.specs.Scan.{ends_in, note_slots, log_record, note_record, durable_count, first_held, note_count, first_note}
use Rattle.model.specs.Scan.{note_index, note_follows, note_fits}
use Rattle.model.specs.declared.{geometry.Geometry.Geometry, state.Entry.Entry}
use Rattle.index_rows.specs.declared.columns.Columns.{Columns}
use Rattle.index_rows.specs.Columns.{writtens, Noted, Unwritten}
use Rattle.index.specs.NoteSection.{noted_index, notes_fit}
use Rattle.log_scan.proofs.RowLaws.{column-set}
use Rattle.index_rows.proofs.ColumnLaws.{log-written}

zero_row : (n i : ℕ) → ◌≡◌ {A = ℕ} (get_or (replicate n 0) i 0) 0
zero_row n i = elim (dec_lt i n) [
  | yes y ↦ get_or-replicate n i 0 0 y
  | no z ↦ get_or-eq_default (replicate n 0) 0 {n = i} (omega (arith, length-replicate {A = ℕ} n 0))
]

module _ (g : Geometry) (v : List ℕ) (f : ℕ) where
  abbrev fits_at : ℕ → Bool
  fits_at k = note_fits g v (note_index g v f k) (f + k)

  -- the page of a note that fits is one of the volume's
  note-inside : (k : ℕ) → fits_at k ≡ true → within g.pages (note_record g v (f + k)).page ≡ true
  unfolding note_fits
  note-inside k h =
      let e = note_record g v (f + k) in
      let n = durable_count g v in
      all-at
      (sealed 12 (item g v (note_slot g (f + k))) ∷ note_layout e ∷ eqb e.number (f + k) ∷ within g.pages e.page ∷ within n e.lsn
      ∷ (ltb e.lsn (first_held g v n) || eqb (log_record g v e.lsn).page e.page) ∷ note_follows g (note_index g v f k) e ∷ []) 3 h

  row-past : (i : ℕ) → g.pages ≤ i → (k : ℕ) → every k fits_at ≡ true → get_or (writtens (note_index g v f k)) i 0 ≡ 0
  unfolding every note_index enter_note
  row-past i h zero t =
      let n = durable_count g v in
      let s = first_held g v n in
      ap (λ (l : List ℕ). get_or l i 0) (log-written g v s (suc n - s)) ∙ zero_row 64 i
  row-past i h (suc k) t =
      let e = note_record g v (f + k) in
      let l = note_index g v f k in
      let w = within-bounds g.pages e.page (note-inside k (and_right (every k fits_at) (fits_at k) t)) in
      ap (λ (x : List ℕ). get_or x i 0) (column-set (λ (x : Entry). x.written) l (e.page - 1) (with_note (entry_of l e.page) e))
      ∙ get_or-set_other (writtens l) (e.page - 1) i _ 0 (λ q. omega (arith, w.0, w.1))
      ∙ row-past i h k (and_left (every k fits_at) (fits_at k) t)

pub unwritten : (g : Geometry) (v : List ℕ) (c : Columns) → notes_fit g v ≡ true → Noted (noted_index g v) c → Unwritten g.pages c.written
unfolding notes_fit
unwritten g v c t n =
    let k = note_count g v in
    let f = first_note g v k in
    let h = and_left (every (suc k - f) (fits_at g v f)) (ends_in v (note_slots g v) f k) t in
    record { unwritten = λ i b. ap (λ (l : List ℕ). get_or l i 0) (sym n.written_is) ∙ row-past g v f i b (suc k - f) h }
