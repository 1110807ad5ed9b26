-- The index that a Restart gives, page by page: what the run's records, the notes and the last step leave in a page's entry, and that a row
-- past the last page stays empty.
use mathlib.Core.Path.{◌≡◌, refl, sym, ap, ◌∙◌}
use mathlib.Core.Logic.{◌≢◌, ◌⊎◌, inl, inr, ⊎_elim}
use mathlib.Core.Bool.{true}
use mathlib.Core.List.{List}
use Prim.Native.Nat.{ℕ, zero, suc, ◌+◌, ◌-◌, ◌≤◌, ◌<◌}
use native.Mathlib.Omega.{arith}
use native.Mathlib.Decide.{dec_lt}
use lib.Dec.{eqb, leb}
use lib.ListN.{get_or-map}
use lib.Seq.{get_or-set_other}
use borrow.Author.Tests.{leb-true, eqb-false}
use Rattle.laws.proofs.Tables.{by_cases, and_right, every-at}
use Rattle.laws.proofs.Tabulated.{replicate-at}
use Rattle.laws.proofs.Scanned.{log-fits}
use Rattle.laws.proofs.Noted.{Marked, notes-fit, down-newest, run-entry, before}
use Rattle.model.specs.Index.{empty_entry, empty_index, entry_row, entry_of, enter_note, settled}
use Rattle.model.specs.Scan.{valid_run, note_slots, log_record, note_record, durable_count, first_held, log_index, valid_log}
use Rattle.model.specs.Scan.{note_count, first_note, indexed_run, note_index, note_fits, valid_notes, index_of}
use Rattle.model.specs.declared.{geometry.Geometry.Geometry, state.Entry.Entry}

-- the last clause of the notes' rule
pub written_low : (g : Geometry) (v : List ℕ) → valid_notes g v ≡ true → (i : ℕ) → i < 64
    → (entry_row (index_of g v) i).written ≤ (entry_row (index_of g v) i).last
unfolding valid_notes
written_low g v h i b =
    let k = note_count g v in
    let f = first_note g v k in
    let index = index_of g v in
    let run = valid_run v (note_slots g v) f k (λ i. note_fits g v (note_index g v f i) (f + i)) in
    leb-true _ _ (every-at (λ i. leb (entry_row index i).written (entry_row index i).last) 64 (and_right run _ h) i b)

module _ (g : Geometry) (v : List ℕ) (few : g.pages ≤ 64) (log : valid_log g v ≡ true) (notes : valid_notes g v ≡ true) where
  abbrev n : ℕ
  n = durable_count g v

  abbrev f : ℕ
  f = first_held g v (durable_count g v)

  abbrev k : ℕ
  k = note_count g v

  abbrev h : ℕ
  h = first_note g v (note_count g v)

  abbrev noted : List Entry
  noted = note_index g v h (suc k - h)

  row_is : (i : ℕ) → entry_row (index_of g v) i ≡ settled (entry_row noted i)
  row_is i = get_or-map settled noted i empty_entry

  -- ---- a page

  -- a number that page p's entry names: one below the run, or one of the page's records
  abbrev pub Names : ℕ → ℕ → Type 0
  Names p i = (i < f) ⊎ ((log_record g v i).page ≡ p)

  -- the numbers of an entry that the notes left, once it is settled
  pub record Settles (p : ℕ) (e : Entry) : Type 0 where
    pub same : e.durable ≡ e.last
    pub high : e.last ≤ n
    pub names : e.last ≢ 0 → Names p e.last
    pub backup : e.backup ≤ e.last
    pub slot : e.slot ≤ g.slots

  settles : (p : ℕ) → 1 ≤ p → (e : Entry) → Marked g v p (entry_of (indexed_run g v) p) e → Settles p (settled e)
  settles p low e m =
      let r = run-entry g v few log notes p low in
      let e₀ = entry_of (indexed_run g v) p in
      let d : e.durable ≡ e.last = m.durable-is ∙ r.same ∙ sym m.last-is in
      by_cases (eqb e.last 0)
      (λ t. rw t (record {
        same = refl;
        high = ⊎_elim (λ z. omega (arith, z)) (λ z. z.0) m.noted;
        names = λ ne. ⊎_elim (λ z. absurd (ne z)) (λ z. z.1) m.noted;
        backup = omega arith;
        slot = m.slot-high;
      }))
      (λ t.
      let nz : e₀.last ≢ 0 = λ z. eqb-false e.last 0 t (m.last-is ∙ z) in
      rw t (record {
        same = d;
        high = omega (arith, m.last-is, r.low nz, r.high);
        names = λ ne. inr (ap (λ (i : ℕ). (log_record g v i).page) m.last-is ∙ r.page nz);
        backup = omega (arith, m.last-is, below e (r.low nz) m.noted);
        slot = m.slot-high;
      }))
    where
      -- no noted backup is above the page's newest record
      below : (e : Entry) → f ≤ (entry_of (indexed_run g v) p).last
          → (e.backup ≡ 0) ⊎ ((e.backup ≤ n) × ((e.backup < f) ⊎ ((log_record g v e.backup).page ≡ p)))
          → e.backup ≤ (entry_of (indexed_run g v) p).last
      below e l (inl z) = omega (arith, z)
      below e l (inr y) = elim (dec_lt e.backup f) [
        | yes t ↦ omega (arith, t, l)
        | no t ↦ ⊎_elim (λ x. absurd (omega (arith, x, t)))
            (λ x.
            let q : f + (e.backup - f) ≡ e.backup = omega arith in
            let k = (run-entry g v few log notes p low).last-is in
            omega (arith, k, q, down-newest g v p f (suc n - f) (e.backup - f) (omega (arith, y.0)) (log-fits g v log) (rw q x)))
            y.1
      ]

  pub page-settles : (p : ℕ) → 1 ≤ p → Settles p (entry_of (index_of g v) p)
  page-settles p low = rw (row_is (p - 1)) (settles p low (entry_of noted p) (before g v few log notes p low))

  -- ---- past the last page no record and no note enters anything

  run_past : (p : ℕ) → g.pages < p → (c : ℕ) → c ≤ suc n - f → entry_of (log_index g v f c) p ≡ empty_entry
  unfolding log_index empty_index
  run_past p past zero b = replicate-at 64 (p - 1) empty_entry
  run_past p past (suc c) b =
      let x = log-fits g v log c b in
      let ne : p - 1 ≢ (log_record g v (f + c)).page - 1 = λ e. omega (arith, e, x.low, x.high) in
      get_or-set_other (log_index g v f c) ((log_record g v (f + c)).page - 1) (p - 1) _ empty_entry ne ∙ run_past p past c (omega arith)

  notes-past : (p : ℕ) → g.pages < p → (c : ℕ) → c ≤ suc k - h → entry_of (note_index g v h c) p ≡ empty_entry
  unfolding note_index enter_note
  notes-past p past zero b = run_past p past (suc n - f) (omega arith)
  notes-past p past (suc c) b =
      let x = notes-fit g v notes c b in
      let ne : p - 1 ≢ (note_record g v (h + c)).page - 1 = λ e. omega (arith, e, x.low, x.high) in
      get_or-set_other (note_index g v h c) ((note_record g v (h + c)).page - 1) (p - 1) _ empty_entry ne ∙ notes-past p past c (omega arith)

  pub row-past : (i : ℕ) → g.pages ≤ i → entry_row (index_of g v) i ≡ empty_entry
  row-past i past =
      let z : suc i - 1 ≡ i = omega arith in
      row_is i ∙ ap settled (rw z at (notes-past (suc i) (omega arith) (suc k - h) (omega arith)))
