-- What the scan reads: volumes of one geometry that agree from the log on are scanned alike, whatever images
-- stand before it.
use mathlib.Core.Path.{◌≡◌, refl, ap, ◌∙◌}
use mathlib.Core.List.{List}
use Prim.Native.Nat.{ℕ, zero, suc, ◌+◌, ◌-◌, ◌*◌, ◌%◌, ◌≤◌}
use native.Mathlib.Omega.{arith}
use lib.ListN.{drop}
use Rattle.laws.proofs.Tables.{every-same}
use Rattle.laws.proofs.Parts.{drop-from}
use Rattle.model.specs.Bytes.{part}
use Rattle.model.specs.Checksum.{sealed_run}
use Rattle.model.specs.Geometry.{record_at, note_at, start, item, ring, log_slot}
use Rattle.model.specs.Scan.{Section, count_in, first_in, rest_zero, ends_in, log_slots, note_slots, durable_count, first_held}
use Rattle.model.specs.Scan.{log_index, record_fits, valid_log, note_count, first_note, indexed_run, note_index, note_fits}
use Rattle.model.specs.Scan.{valid_notes, index_of, note_record}
use Rattle.model.specs.declared.{geometry.Geometry.Geometry, state.Entry.Entry}

module _ (g : Geometry) (v w : List ℕ) (e : drop (start g (record_at 1)) w ≡ drop (start g (record_at 1)) v) where
  part_same : (a n : ℕ) → start g (record_at 1) ≤ a → part w a n ≡ part v a n
  unfolding part
  part_same a n l = rw (drop-from (start g (record_at 1)) a w v l e)

  pub record_same : (i : ℕ) → item g w (record_at i) ≡ item g v (record_at i)
  unfolding item
  record_same i = part_same (start g (record_at i)) 64 (omega arith)

  pub note-same : (i : ℕ) → item g w (note_at i) ≡ item g v (note_at i)
  unfolding item
  note-same i = part_same (start g (note_at i)) 16 (omega arith)

  run-same : (n most at : ℕ) → start g (record_at 1) ≤ at → sealed_run n most w at ≡ sealed_run n most v at
  unfolding sealed_run
  run-same n zero at l = refl
  run-same n (suc most) at l = rw (part_same at (n + 4) l, run-same n most (at + (n + 4)) (omega arith))

  rest-same : (size count at n : ℕ) → start g (record_at 1) ≤ at → rest_zero size count w at n ≡ rest_zero size count v at n
  unfolding rest_zero
  rest-same size count at n l = rw (part_same (at + size * (n + 1)) (size * (count - (n + 1))) (omega arith))

  -- a section from there on, whose slots are the same
  module _ (s t : Section) (same : s ≡ t) (from : start g (record_at 1) ≤ t.at) where
    section-count : count_in w s ≡ count_in v t
    unfolding count_in
    section-count = ap (count_in w) same ∙ rw (run-same t.size t.slots t.at from)

    section-ends : (f n : ℕ) → ends_in w s f n ≡ ends_in v t f n
    unfolding ends_in
    section-ends f n = ap (λ (x : Section). ends_in w x f n) same ∙ rw (rest-same (t.size + 4) t.slots t.at n from)

  -- ---- the log

  slots_same : log_slots g w ≡ log_slots g v
  slots_same = λ i. record {
    ring = ring g;
    size = 60;
    slots = g.records;
    at = start g (record_at 1);
    slot = λ n. record_same n i;
  }

  pub count_same : durable_count g w ≡ durable_count g v
  unfolding durable_count
  count_same = section-count (log_slots g w) (log_slots g v) slots_same (omega arith)

  pub held_same : (n : ℕ) → first_held g w n ≡ first_held g v n
  unfolding first_held
  held_same n = ap (λ (s : Section). first_in s n) slots_same

  pub index_same : (f c : ℕ) → log_index g w f c ≡ log_index g v f c
  unfolding log_index
  index_same f zero = refl
  index_same f (suc c) = rw (index_same f c, record_same (suc ((f + c - 1) % g.records)))

  fits-same : (f n : ℕ) (index : List Entry) → record_fits g w f index n ≡ record_fits g v f index n
  unfolding record_fits
  fits-same f n index = rw (record_same (suc ((n - 1) % g.records)))

  pub log-same : valid_log g w ≡ valid_log g v
  unfolding valid_log
  log-same =
      let n = durable_count g v in
      let f = first_held g v n in
      rw (
        count_same,
        held_same n,
        section-ends (log_slots g w) (log_slots g v) slots_same (omega arith) f n,
        every-same (λ i. record_fits g w f (log_index g w f i) (f + i)) (λ i. record_fits g v f (log_index g v f i) (f + i)) (suc n - f)
            (λ i b. fits-same f (f + i) (log_index g w f i) ∙ rw (index_same f i)),
      )

  -- ---- the notes

  note-slots-same : note_slots g w ≡ note_slots g v
  note-slots-same = λ i. record {
    ring = ring g;
    size = 12;
    slots = g.notes;
    at = start g (note_at 1);
    slot = λ n. note-same n i;
  }

  pub notes-same : note_count g w ≡ note_count g v
  unfolding note_count
  notes-same = section-count (note_slots g w) (note_slots g v) note-slots-same (omega arith)

  first-same : (n : ℕ) → first_note g w n ≡ first_note g v n
  unfolding first_note
  first-same n = ap (λ (s : Section). first_in s n) note-slots-same

  run-index-same : indexed_run g w ≡ indexed_run g v
  run-index-same = rw (
    count_same,
    held_same (durable_count g v),
    index_same (first_held g v (durable_count g v)) (suc (durable_count g v) - first_held g v (durable_count g v)),
  )

  note-index-same : (f c : ℕ) → note_index g w f c ≡ note_index g v f c
  unfolding note_index
  note-index-same f zero = run-index-same
  note-index-same f (suc c) = rw (note-index-same f c, note-same (suc ((f + c - 1) % g.notes)))

  note-fits-same : (n : ℕ) (index : List Entry) → note_fits g w index n ≡ note_fits g v index n
  unfolding note_fits
  note-fits-same n index =
      let x = (note_record g v n).lsn in
      rw (note-same (suc ((n - 1) % g.notes)), count_same, held_same (durable_count g v), record_same (suc ((x - 1) % g.records)))

  pub index-of-same : index_of g w ≡ index_of g v
  index-of-same = rw (
    notes-same,
    first-same (note_count g v),
    note-index-same (first_note g v (note_count g v)) (suc (note_count g v) - first_note g v (note_count g v)),
  )

  pub valid-notes-same : valid_notes g w ≡ valid_notes g v
  unfolding valid_notes
  valid-notes-same =
      let n = note_count g v in
      let f = first_note g v n in
      rw (
        index-of-same,
        notes-same,
        first-same n,
        section-ends (note_slots g w) (note_slots g v) note-slots-same (omega arith) f n,
        every-same (λ i. note_fits g w (note_index g w f i) (f + i)) (λ i. note_fits g v (note_index g v f i) (f + i)) (suc n - f)
            (λ i b. note-fits-same (f + i) (note_index g w f i) ∙ rw (note-index-same f i)),
      )

  -- the log by number
  pub log_is : ◌≡◌ {A = ℕ → List ℕ} (λ n. item g w (log_slot g n)) (λ n. item g v (log_slot g n))
  log_is = λ i. λ n. record_same (suc ((n - 1) % g.records)) i
