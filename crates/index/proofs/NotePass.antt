-- Laws of the notes' scan: one note as it was judged and entered, and what all notes come to.
use mathlib.Core.Path.{◌≡◌, refl, sym, ap, ◌∙◌, subst}
use mathlib.Core.Bool.{Bool, true, false, ◌&&◌, ◌||◌, not}
use mathlib.Core.List.{List, [], ◌∷◌, map}
use Prim.Native.Nat.{ℕ, zero, suc, ◌+◌, ◌-◌, ◌%◌, ◌≤◌, ◌<◌}
use native.Mathlib.Numerals.{add-one}
use native.Mathlib.Omega.{arith}
use lib.Dec.{eqb, leb, ltb}
use lib.ListN.{get_or, set, get_or-map}
use borrow.Author.Tests.{le-leb}
use Rattle.laws.proofs.Tables.{all-at, within-bounds, every-none, every_more, every-fails}
use Rattle.model.specs.Tables.{every, within}
use Rattle.model.specs.Checksum.{sealed}
use Rattle.model.specs.Geometry.{note_slot, item}
use Rattle.model.specs.Item.{note_of, note_layout}
use Rattle.model.specs.Index.{empty_entry, entry_row, entry_of, with_note, enter_note, slot_used}
use Rattle.model.specs.Scan.{log_record, note_record, durable_count, first_held, note_count, first_note, note_index}
use Rattle.model.specs.Scan.{note_follows, note_fits, ends_in, valid_notes, index_of}
use Rattle.model.specs.declared.{geometry.Geometry.Geometry, item.Note.Note, state.Entry.Entry}
use Rattle.log_scan.specs.Rows.{row_of}
use Rattle.index_rows.specs.declared.columns.Columns.{Columns}
use Rattle.index_rows.specs.Columns.{Noted, Blank, earlier_row, entered, slot_in}
use Rattle.index.specs.NoteSection.{note_section, note_run, note_after, note_agrees, noted_index, notes_fit}
use Rattle.section.specs.Section.{slots_in, front_in}
use Rattle.section.specs.declared.Run.{Run}
use Rattle.section.specs.declared.Extent.{Extent}
use Rattle.log_scan.proofs.RowLaws.{column-set, row_is}
use Rattle.index_rows.proofs.ColumnLaws.{slot-in, log-written, log-slots, log-backup, noted-written, noted-slot, noted-backup}
use Rattle.index.proofs.Located.{note-known, note-section, first-note-low, notes-some}
use Rattle.log_scan.proofs.Conjunctions.{guarded}

-- slot 0 is in no range, whatever a search says of it
searched : (n s : ℕ) (used : Bool) → (within n s && not (leb 1 s && used)) ≡ (within n s && not used)
searched n zero used = refl
searched n (suc s) used = rw (le-leb 1 (suc s) (omega arith))

module _ (g : Geometry) (v : List ℕ) where
  breaks : (i : ℕ) → let k = note_count g v in let f = first_note g v k in
      i < suc k - f → note_fits g v (note_index g v f i) (f + i) ≡ false → notes_fit g v ≡ false
  unfolding notes_fit
  breaks i b h =
      let k = note_count g v in
      let f = first_note g v k in
      rw (every-fails (λ j. note_fits g v (note_index g v f j) (f + j)) (suc k - f) i b h)

  ends : let k = note_count g v in let f = first_note g v k in
      every (suc k - f) (λ j. note_fits g v (note_index g v f j) (f + j)) ≡ true → ends_in v (slots_in v (note_section g)) f k ≡ notes_fit g v
  unfolding notes_fit
  ends h = rw (h, note-section g v)

  -- the first i notes of a run from f on fit, and gave the columns
  pub record Entered (f i : ℕ) (c : Columns) : Type 0 where
    pub held : every i (λ j. note_fits g v (note_index g v f j) (f + j)) ≡ true
    pub same : Noted (note_index g v f i) c

  -- the notes' run
  module _ (r : Run) (er : r ≡ note_run g v) where
    -- a note at the whole front
    pub note-whole : (n slot : ℕ) (x : List ℕ) → x ≡ item g v (note_slot g n) → slot ≡ (n - 1) % g.notes
        → slot < r.front → sealed 12 x ≡ true
    note-whole n slot x ex e h =
        let q : r.front ≡ front_in v (note_section g) = ap (λ (y : Run). y.front) er in
        ap (sealed 12) ex ∙ note-known g v n (omega (arith, e, q))

    pub run-low : 1 ≤ r.first
    run-low = rw er (first-note-low g v (note_count g v))

    pub run-some : (i : ℕ) → i < suc r.count - r.first → 1 ≤ g.notes
    run-some = subst (λ (x : Run). (i : ℕ) → i < suc x.count - x.first → 1 ≤ g.notes) (sym er)
        (λ i b. notes-some g v (omega (arith, first-note-low g v (note_count g v))))

    -- a note does not fit
    pub notes-break : (i : ℕ) → i < suc r.count - r.first
        → note_fits g v (note_index g v r.first i) (r.first + i) ≡ false → notes_fit g v ≡ false
    notes-break =
        subst (λ (x : Run). (i : ℕ) → i < suc x.count - x.first → note_fits g v (note_index g v x.first i) (x.first + i) ≡ false
        → notes_fit g v ≡ false)
        (sym er) breaks

    -- all fit
    module _ (i : ℕ) (c : Columns) (j : Entered r.first i c)
        (ei : i ≡ suc r.count - r.first) where
      pub notes-end : (s : Extent) → s ≡ note_section g → (b : Bool) → b ≡ ends_in v (slots_in v s) r.first r.count
          → b ≡ notes_fit g v
      notes-end s es b eb =
          eb ∙ ap (λ (x : Extent). ends_in v (slots_in v x) r.first r.count) es
          ∙ subst (λ (x : Run). every (suc x.count - x.first) (λ k. note_fits g v (note_index g v x.first k) (x.first + k)) ≡ true
          → ends_in v (slots_in v (note_section g)) x.first x.count ≡ notes_fit g v) (sym er) ends (rw ei at j.held)

      pub notes-columns : Noted (noted_index g v) c
      notes-columns =
          subst (λ (x : Run). Noted (note_index g v x.first (suc x.count - x.first)) c) er
          (subst (λ (k : ℕ). Noted (note_index g v r.first k) c) ei j.same)

  -- the rule of the notes, with what is judged at the end
  pub notes-valid : valid_notes g v
      ≡ (notes_fit g v && every 64 (λ i. leb (entry_row (index_of g v) i).written (entry_row (index_of g v) i).last))
  unfolding valid_notes notes_fit
  notes-valid = refl

  -- the columns before any note
  note-none : (f : ℕ) (c : Columns) → Blank c → Noted (note_index g v f 0) c
  unfolding note_index
  note-none f c b =
      let n = durable_count g v in
      let s = first_held g v n in
      record {
        written_is = log-written g v s (suc n - s) ∙ sym b.written_none;
        slots-are = log-slots g v s (suc n - s) ∙ sym b.slots-none;
        backup-is = log-backup g v s (suc n - s) ∙ sym b.backup-none;
      }

  pub entered-none : (f : ℕ) (c : Columns) → Blank c → Entered f 0 c
  entered-none f c b = record { held = every-none _; same = note-none f c b }

  -- note k = f + i as it was read and judged, after notes that gave the columns
  module _ (few : g.pages ≤ 64) (f i : ℕ) (c : Columns) (same : Noted (note_index g v f i) c) (k : ℕ) (k-is : k ≡ f + i)
      (r : List ℕ) (er : r ≡ item g v (note_slot g k)) (e : Note) (ee : e ≡ note_of r) (j : ℕ) (ej : j ≡ row_of e.page)
      (was : Entry) (ew : was ≡ earlier_row c j)
      (durable first : ℕ) (ed : durable ≡ durable_count g v) (ef : first ≡ first_held g v (durable_count g v))
      (whole used follows named ok : Bool) (eh : whole ≡ sealed 12 r) (eu : used ≡ (leb 1 e.slot && slot_in e.slot c.slots))
      (el : follows ≡ note_after was e g.slots used)
      (en : named ≡ (ltb e.lsn first || eqb (log_record g v e.lsn).page e.page))
      (eo : ok ≡ note_agrees whole e k g.pages durable named follows) where
    read_is : e ≡ note_record g v (f + i)
    read_is = ee ∙ ap note_of er ∙ ap (λ (n : ℕ). note_record g v n) k-is

    inside : within g.pages e.page ≡ true → j ≡ e.page - 1
    inside t = ej ∙ row_is e.page (omega (arith, within-bounds g.pages e.page t))

    -- a column at the note's page
    at-page : (h : Entry → ℕ) → h empty_entry ≡ 0 → (l : List ℕ) → map h (note_index g v f i) ≡ l → within g.pages e.page ≡ true
        → get_or l j 0 ≡ h (entry_of (note_index g v f i) e.page)
    at-page h z l q t =
        ap (λ (x : List ℕ). get_or x j 0) (sym q)
        ∙ ap (λ (x : ℕ). get_or (map h (note_index g v f i)) x 0) (inside t)
        ∙ ap (λ (x : ℕ). get_or (map h (note_index g v f i)) (e.page - 1) x) (sym z)
        ∙ get_or-map h (note_index g v f i) (e.page - 1) empty_entry

    written_at : within g.pages e.page ≡ true → was.written ≡ (entry_of (note_index g v f i) e.page).written
    written_at t = ap (λ (x : Entry). x.written) ew ∙ at-page (λ (x : Entry). x.written) refl c.written same.written_is t

    slot-at : within g.pages e.page ≡ true → was.slot ≡ (entry_of (note_index g v f i) e.page).slot
    slot-at t = ap (λ (x : Entry). x.slot) ew ∙ at-page (λ (x : Entry). x.slot) refl c.slots same.slots-are t

    backup-at : within g.pages e.page ≡ true → was.backup ≡ (entry_of (note_index g v f i) e.page).backup
    backup-at t = ap (λ (x : Entry). x.backup) ew ∙ at-page (λ (x : Entry). x.backup) refl c.backup same.backup-is t

    used-is : slot_in e.slot c.slots ≡ slot_used e.slot (note_index g v f i)
    used-is = ap (slot_in e.slot) (sym same.slots-are) ∙ slot-in e.slot (note_index g v f i)

    follows_is : within g.pages e.page ≡ true → follows ≡ note_follows g (note_index g v f i) e
    unfolding note_follows
    follows_is t = el ∙ rw (eu, searched g.slots e.slot (slot_in e.slot c.slots), written_at t, backup-at t, used-is)

    pub note-judged : ok ≡ note_fits g v (note_index g v f i) (f + i)
    unfolding note_fits
    note-judged =
        eo
        ∙ ap (λ (t : Bool). whole && t)
        (guarded (note_layout e) (eqb e.number k) (within g.pages e.page)
        (within durable e.lsn && (named && follows))
        (within durable e.lsn && (named && note_follows g (note_index g v f i) e))
        (λ t. ap (λ (x : Bool). within durable e.lsn && (named && x)) (follows_is t)))
        ∙ rw (en, eh, ed, ef, ee, er, k-is)

    -- a column with the note entered
    enters : (h : Entry → ℕ) (l : List ℕ) → map h (note_index g v f i) ≡ l → (y : ℕ) → within g.pages e.page ≡ true
        → y ≡ h (with_note (entry_of (note_index g v f i) e.page) e) → map h (note_index g v f (i + 1)) ≡ set l j y
    unfolding note_index enter_note
    enters h l q y t ey =
        rw (add-one i, ← read_is, inside t, ey, ← q)
        (column-set h (note_index g v f i) (e.page - 1) (with_note (entry_of (note_index g v f i) e.page) e))

    note-enters : ok ≡ true → (x : Entry) → x ≡ with_note was e
        → Noted (note_index g v f (i + 1)) (entered c j x)
    note-enters t x ex =
        let w : within g.pages e.page ≡ true =
        all-at (whole ∷ note_layout e ∷ eqb e.number k ∷ within g.pages e.page ∷ within durable e.lsn ∷ named ∷ follows ∷ []) 3
        (sym eo ∙ t) in
        let b = entry_of (note_index g v f i) e.page in
        record {
          written_is = enters (λ (q : Entry). q.written) c.written same.written_is x.written w
              (ap (λ (q : Entry). q.written) ex ∙ noted-written was b e (written_at w));
          slots-are = enters (λ (q : Entry). q.slot) c.slots same.slots-are x.slot w
              (ap (λ (q : Entry). q.slot) ex ∙ noted-slot was b e (slot-at w));
          backup-is = enters (λ (q : Entry). q.backup) c.backup same.backup-is x.backup w
              (ap (λ (q : Entry). q.backup) ex ∙ noted-backup was b e (backup-at w));
        }

    pub entered-more : Entered f i c → ok ≡ true → (x : Entry) → x ≡ with_note was e → Entered f (i + 1) (entered c j x)
    entered-more n t x ex =
        record {
          held = every_more (λ z. note_fits g v (note_index g v f z) (f + z)) i n.held (sym note-judged ∙ t);
          same = note-enters t x ex;
        }
