-- What the notes of a volume that restarts leave in the index, on any bytes: a page's newest number stays the log's, and its noted backup
-- is of one of its records, or of one below the run.
use mathlib.Core.Path.{◌≡◌, refl, sym, ◌∙◌}
use mathlib.Core.Logic.{◌≢◌, ◌⊎◌, inl, inr, ⊎_elim}
use mathlib.Core.Bool.{true, false, cond, not, ◌||◌}
use mathlib.Core.List.{List, [], ◌∷◌}
use Prim.Native.Nat.{ℕ, zero, suc, ◌+◌, ◌-◌, ◌≤◌, ◌<◌}
use native.Mathlib.Omega.{arith}
use native.Mathlib.Decide.{dec_lt, ℕ_discrete}
use lib.Dec.{eqb, leb, ltb}
use lib.ListN.{length, length-set, get_or-map}
use lib.Seq.{get_or-set_same, get_or-set_other}
use borrow.Author.Tests.{eqb-true, eq-eqb, ltb-true}
use Rattle.laws.proofs.Tables.{by_cases, all-at, and_left, or_cases, every-at, within-bounds, true-not-false}
use Rattle.laws.proofs.Scanned.{Fit, Newest, newest, down, first_lsn, held_low, log-fits, index-length}
use Rattle.model.specs.Tables.{within}
use Rattle.model.specs.Checksum.{sealed}
use Rattle.model.specs.Geometry.{item, note_slot}
use Rattle.model.specs.Item.{note_layout, is_written}
use Rattle.model.specs.Index.{empty_entry, entry_of, with_note, enter_note, slot_used, settled}
use Rattle.model.specs.Scan.{log_record, note_record, durable_count, first_held, valid_log, note_count, first_note, indexed_run}
use Rattle.model.specs.Scan.{note_index, note_follows, note_fits, valid_notes, index_of}
use Rattle.model.specs.declared.{geometry.Geometry.Geometry, item.Note.Note, state.Entry.Entry}

-- ---- one note

pub record NoteFit (g : Geometry) (v : List ℕ) (e : Note) : Type 0 where
  pub low : 1 ≤ e.page
  pub high : e.page ≤ g.pages
  pub durable : e.lsn ≤ durable_count g v
  pub names : (e.lsn < first_held g v (durable_count g v)) ⊎ ((log_record g v e.lsn).page ≡ e.page)
  pub slot : is_written e ≡ false → (1 ≤ e.slot) × (e.slot ≤ g.slots)

follows-slot : (g : Geometry) (index : List Entry) (e : Note) → note_follows g index e ≡ true → is_written e ≡ false
    → (1 ≤ e.slot) × (e.slot ≤ g.slots)
unfolding note_follows
follows-slot g index e h t =
    let tests = leb (entry_of index e.page).backup e.lsn ∷ within g.slots e.slot ∷ not (slot_used e.slot index) ∷ [] in
    within-bounds g.slots e.slot (all-at tests 1 (rw t at h))

note-fit : (g : Geometry) (v : List ℕ) (index : List Entry) (k : ℕ) → note_fits g v index k ≡ true → NoteFit g v (note_record g v k)
unfolding note_fits
note-fit g v index k h =
    let e = note_record g v k in
    let n = durable_count g v in
    let tests = sealed 12 (item g v (note_slot g k)) ∷ note_layout e ∷ eqb e.number k ∷ within g.pages e.page ∷ within n e.lsn
    ∷ (ltb e.lsn (first_held g v n) || eqb (log_record g v e.lsn).page e.page) ∷ note_follows g index e ∷ [] in
    let w = within-bounds g.pages e.page (all-at tests 3 h) in
    record {
      low = w.0;
      high = w.1;
      durable = (within-bounds n e.lsn (all-at tests 4 h)).1;
      names = ⊎_elim (λ t. inl (ltb-true e.lsn (first_held g v n) t)) (λ t. inr (eqb-true _ _ t))
          (or_cases (ltb e.lsn (first_held g v n)) (eqb (log_record g v e.lsn).page e.page) (all-at tests 5 h));
      slot = follows-slot g index e (all-at tests 6 h);
    }

pub notes-fit : (g : Geometry) (v : List ℕ) → valid_notes g v ≡ true → (i : ℕ) → i < suc (note_count g v) - first_note g v (note_count g v)
    → NoteFit g v (note_record g v (first_note g v (note_count g v) + i))
unfolding valid_notes
notes-fit g v h i b =
    let k = note_count g v in
    let f = first_note g v k in
    note-fit g v (note_index g v f i) (f + i)
    (every-at (λ i. note_fits g v (note_index g v f i) (f + i)) (suc k - f) (and_left _ _ (and_left _ _ h)) i b)

-- ---- the index with notes entered

pub notes-length : (g : Geometry) (v : List ℕ) (f c : ℕ) → length (note_index g v f c) ≡ 64
unfolding note_index enter_note
notes-length g v f zero = index-length g v (first_held g v (durable_count g v)) (suc (durable_count g v) - first_held g v (durable_count g v))
notes-length g v f (suc c) = length-set (note_index g v f c) ((note_record g v (f + c)).page - 1) _ ∙ notes-length g v f c

-- page p's entry after some notes, beside the log's
pub record Marked (g : Geometry) (v : List ℕ) (p : ℕ) (e₀ e : Entry) : Type 0 where
  pub last-is : e.last ≡ e₀.last
  pub durable-is : e.durable ≡ e₀.durable
  pub unslotted : e.slot ≡ 0 → e.backup ≡ 0
  pub slot-high : e.slot ≤ g.slots
  pub noted : (e.backup ≡ 0)
      ⊎ ((e.backup ≤ durable_count g v) × ((e.backup < first_held g v (durable_count g v)) ⊎ ((log_record g v e.backup).page ≡ p)))

mark-more : (g : Geometry) (v : List ℕ) (p : ℕ) (e₀ e : Entry) (n : Note) → NoteFit g v n → n.page ≡ p → Marked g v p e₀ e
    → Marked g v p e₀ (with_note e n)
mark-more g v p e₀ e n f q m = by_cases (is_written n)
    (λ t. rw t (record {
      last-is = m.last-is;
      durable-is = m.durable-is;
      unslotted = m.unslotted;
      slot-high = m.slot-high;
      noted = m.noted;
    }))
    (λ t. rw t (record {
      last-is = m.last-is;
      durable-is = m.durable-is;
      unslotted = λ z. absurd (omega (arith, (f.slot t).0, z));
      slot-high = (f.slot t).1;
      noted = inr (f.durable, ⊎_elim inl (λ r. inr (r ∙ q)) f.names);
    }))

module _ (g : Geometry) (v : List ℕ) (few : g.pages ≤ 64) (f most : ℕ) (ok : (i : ℕ) → i < most → NoteFit g v (note_record g v (f + i)))
    (p : ℕ) (low : 1 ≤ p) where
  marked : (c : ℕ) → c ≤ most → (e₀ : Entry) → entry_of (indexed_run g v) p ≡ e₀ → (e₀.slot ≡ 0) × (e₀.backup ≡ 0)
      → Marked g v p e₀ (entry_of (note_index g v f c) p)
  unfolding note_index enter_note
  marked zero h e₀ q z =
      rw q (record { last-is = refl; durable-is = refl; unslotted = λ y. z.1; slot-high = omega (arith, z.0); noted = inl z.1 })
  marked (suc c) h e₀ q z =
      let x = note_record g v (f + c) in
      let fi = ok c h in
      let i = notes-length g v f c in
      let k = marked c (omega arith) e₀ q z in
      elim (ℕ_discrete p x.page) [
        | yes y ↦
            let r : p - 1 < length (note_index g v f c) = omega (arith, fi.high, i) in
            rw (← y, get_or-set_same (note_index g v f c) (p - 1) (with_note (entry_of (note_index g v f c) p) x) empty_entry r)
            (mark-more g v p e₀ (entry_of (note_index g v f c) p) x fi (sym y) k)
        | no ne ↦
            let d : p - 1 ≢ x.page - 1 = λ e. ne (omega (arith, fi.low)) in
            rw (get_or-set_other (note_index g v f c) (x.page - 1) (p - 1)
            (with_note (entry_of (note_index g v f c) x.page) x) empty_entry d) k
      ]

-- ---- a volume that restarts

-- page p's entry: its newest number is the log's, or that of its noted backup where the log has none, which is then below the run
pub record Entered (g : Geometry) (v : List ℕ) (p : ℕ) (rs : List (List ℕ)) (e : Entry) : Type 0 where
  pub durable-is : e.durable ≡ cond (eqb (first_lsn rs) 0) e.backup (first_lsn rs)
  pub unslotted : e.slot ≡ 0 → e.backup ≡ 0
  pub below : first_lsn rs ≡ 0 → e.backup ≢ 0 → e.backup < first_held g v (durable_count g v)

-- no record of the page in the run is above its newest
pub down-newest : (g : Geometry) (v : List ℕ) (p f : ℕ) → (c i : ℕ) → i < c → ((j : ℕ) → j < c → Fit g v f j)
    → (log_record g v (f + i)).page ≡ p
    → f + i ≤ first_lsn (down g v p f c)
unfolding down first_lsn
down-newest g v p f zero i b ok q = absurd (omega arith)
down-newest g v p f (suc c) i b ok q =
    let k = (ok c (omega arith)).lsn-is in
    by_cases (eqb (log_record g v (f + c)).page p)
    (λ t. rw t (omega (arith, k, b)))
    (λ t. rw t (elim (ℕ_discrete i c) [
      | yes e ↦ let r : (log_record g v (f + c)).page ≡ p = rw e at q in absurd (true-not-false (eq-eqb _ p r) t)
      | no ne ↦ down-newest g v p f c i (omega arith) (λ j d. ok j (omega arith)) q
    ]))

module _ (g : Geometry) (v : List ℕ) (few : g.pages ≤ 64) (log : valid_log g v ≡ true) (notes : valid_notes g v ≡ true)
    (p : ℕ) (low : 1 ≤ p) where
  abbrev n : ℕ
  n = durable_count g v

  abbrev f : ℕ
  f = first_held g v (durable_count g v)

  abbrev records : List (List ℕ)
  records = down g v p f (suc n - f)

  pub run-entry : Newest g v f (suc n - f) p (entry_of (indexed_run g v) p)
  run-entry = newest g v f (held_low g v n) few (suc n - f) (log-fits g v log) (suc n - f) p (omega arith) low

  pub before : Marked g v p (entry_of (indexed_run g v) p)
      (entry_of (note_index g v (first_note g v (note_count g v)) (suc (note_count g v) - first_note g v (note_count g v))) p)
  before =
      let k = note_count g v in
      let s = first_note g v k in
      marked g v few s (suc k - s) (notes-fit g v notes) p low (suc k - s) (omega arith) (entry_of (indexed_run g v) p) refl
      (run-entry.unmarked.1, run-entry.unmarked.2)

  settle : (e : Entry) → Marked g v p (entry_of (indexed_run g v) p) e → p ≤ 64 → Entered g v p records (settled e)
  settle e m hi =
      let r = run-entry in
      let l : e.last ≡ first_lsn records = m.last-is ∙ r.last-is in
      let d : e.durable ≡ first_lsn records = m.durable-is ∙ r.same ∙ r.last-is in
      let low-backup : first_lsn records ≡ 0 → e.backup ≢ 0 → e.backup < f = λ z ne. ⊎_elim
      (λ y. absurd (ne y))
      (λ y. ⊎_elim (λ x. x)
      (λ x. elim (dec_lt e.backup f) [
        | yes t ↦ t
        | no t ↦
            let q : f + (e.backup - f) ≡ e.backup = omega arith in
            absurd (omega (
              arith,
              held_low g v n,
              z,
              down-newest g v p f (suc n - f) (e.backup - f) (omega (arith, y.0)) (log-fits g v log) (rw q x),
            ))
      ])
      y.1)
      m.noted in
      by_cases (eqb (first_lsn records) 0)
      (λ t. rw (l, t) (record { durable-is = rw t; unslotted = m.unslotted; below = low-backup }))
      (λ t. rw (l, t) (record { durable-is = rw t d; unslotted = m.unslotted; below = low-backup }))

  pub entered : p ≤ 64 → Entered g v p records (entry_of (index_of g v) p)
  entered hi =
      let k = note_count g v in
      let s = first_note g v k in
      rw (get_or-map settled (note_index g v s (suc k - s)) (p - 1) empty_entry)
      (settle (entry_of (note_index g v s (suc k - s)) p) before hi)
