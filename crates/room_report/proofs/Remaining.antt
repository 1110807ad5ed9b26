-- How many more there is room for: the first number that is refused, and what the definitions say in each of their cases.
use mathlib.Core.Path.{◌≡◌, sym, ap, ◌∙◌}
use mathlib.Core.Bool.{Bool, true, false, ◌&&◌}
use mathlib.Core.List.{List}
use Prim.Native.Nat.{ℕ, ◌+◌, ◌-◌, ◌≤◌, ◌<◌}
use native.Mathlib.Numerals.{add-one}
use native.Mathlib.Omega.{arith}
use lib.Dec.{eqb, leb, ltb}
use borrow.Author.Tests.{leb-true, leb-false, lt-leb, ltb-true, ne_eqb}
use Rattle.reports_laws.proofs.Forecast.{scanned}
use Rattle.laws.proofs.Tables.{and_left, and_right, or-neither}
use Rattle.model.specs.Tables.{first_of}
use Rattle.model.specs.Geometry.{geometry_of, valid_volume, ring, most, most_notes}
use Rattle.model.specs.Scan.{log_record, note_record}
use Rattle.model.specs.State.{last_number, log_full, notes_full}
use Rattle.model.specs.Restart.{restart_state}
use Rattle.reports.specs.Reading as reading
use Rattle.model.specs.declared.{geometry.Geometry.Geometry, item.LogRecord.LogRecord, item.Note.Note}
use Rattle.model.specs.declared.{answer.Refusal.Refusal, state.State.State}
use Rattle.model.specs.Refused.{refusal_number}
use Rattle.laws.proofs.Refused.{refusal-some}
use Rattle.index.specs.Scanned.{scan_rows, scan_refusal, scanned_of}
use Rattle.index.specs.declared.Scanned.{Scanned}
use Rattle.reports.specs.Room.{after_records, log_full_after, log_page, log_space, after_notes, notes_full_after, note_page, note_space, no_space, room_of}
use Rattle.state.specs.Resumed.{resumed_state}
use Rattle.reports.specs.declared.reading.Space.{Space}
use Rattle.reports.specs.declared.reading.Room.{Room}

module _ (g : Geometry) (v : List ℕ) (s : State) where
  -- ---- the log

  -- a number is left where it is not full
  pub log-numbers : log_full g v s ≡ false → last_number s < most g
  unfolding log_full
  log-numbers h = leb-false (most g) (last_number s) (or-neither (leb (most g) (last_number s)) _ h).0

  -- and where one is and it is full, the next record displaces one
  pub log-displaces : last_number s < most g → log_full g v s ≡ true → g.records ≤ last_number s
  unfolding log_full
  log-displaces l h =
      let f : leb (most g) (last_number s) ≡ false = lt-leb (most g) (last_number s) l in
      leb-true g.records (last_number s) (and_left _ _ (and_right (ring g) _ (rw f at h)))

  -- what the code's test of the last number and of the room tells
  module _ (top : ℕ) (full : Bool) (et : top ≡ most g) (ef : full ≡ log_full g v s) where
    log-same : (b : Bool) → (ltb (last_number s) top && full) ≡ b → (ltb (last_number s) (most g) && log_full g v s) ≡ b
    log-same b h = rw (et, ef) at h

    pub log-page-none : (ltb (last_number s) top && full) ≡ false → 0 ≡ log_page g v s
    unfolding log_page
    log-page-none h = rw (log-same false h)

    pub log-page-some : (ltb (last_number s) top && full) ≡ true → (e : LogRecord)
        → e ≡ log_record g v (last_number s + 1 - g.records)
        → e.page ≡ log_page g v s
    unfolding log_page
    log-page-some h e ee = rw (log-same true h, ee, add-one)

    pub log-past : (ltb (last_number s) top && full) ≡ true → (g.records ≤ last_number s) × (last_number s < most g)
    log-past h =
        let x = ltb (last_number s) (most g) in
        let z = log-same true h in
        let l : last_number s < most g = ltb-true (last_number s) (most g) (and_left x (log_full g v s) z) in
        (log-displaces l (and_right x (log_full g v s) z), l)

  -- what the test of the state i records on tells
  pub log-tested : (i : ℕ) (t : State) (r b : Bool) → t ≡ after_records s i → r ≡ log_full g v t → r ≡ b → log_full_after g v s i ≡ b
  log-tested i t r b et ef eb = ap (λ (x : State). log_full g v x) (sym et) ∙ sym ef ∙ eb

  -- ---- the notes

  pub note-numbers : notes_full g v s ≡ false → s.notes < most_notes g
  unfolding notes_full
  note-numbers h =
      leb-false (most_notes g) s.notes
      (or-neither (leb (most_notes g) s.notes) _ (or-neither (eqb g.notes 0) _ h).1).0

  pub note-displaces : 0 < g.notes → s.notes < most_notes g → notes_full g v s ≡ true → g.notes ≤ s.notes
  unfolding notes_full
  note-displaces some l h =
      let z : eqb g.notes 0 ≡ false = ne_eqb g.notes 0 (λ e. omega (arith, e)) in
      let f : leb (most_notes g) s.notes ≡ false = lt-leb (most_notes g) s.notes l in
      leb-true g.notes s.notes (and_left _ _ (and_right (ring g) _ (rw (z, f) at h)))

  module _ (top : ℕ) (full : Bool) (et : top ≡ most_notes g) (ef : full ≡ notes_full g v s) where
    split : (a b c d : Bool) → ((a && b) && c) ≡ d → (a && (b && c)) ≡ d
    split true b c d e = e
    split false b c d e = e

    note-same : (b : Bool) → ((ltb 0 g.notes && ltb s.notes top) && full) ≡ b
        → (ltb 0 g.notes && (ltb s.notes (most_notes g) && notes_full g v s)) ≡ b
    note-same b h = split (ltb 0 g.notes) (ltb s.notes (most_notes g)) (notes_full g v s) b (rw (et, ef) at h)

    pub note-page-none : ((ltb 0 g.notes && ltb s.notes top) && full) ≡ false → 0 ≡ note_page g v s
    unfolding note_page
    note-page-none h = rw (note-same false h)

    pub note-page-some : ((ltb 0 g.notes && ltb s.notes top) && full) ≡ true → (e : Note) → e ≡ note_record g v (s.notes + 1 - g.notes)
        → e.page ≡ note_page g v s
    unfolding note_page
    note-page-some h e ee = rw (note-same true h, ee, add-one)

    pub note-past : ((ltb 0 g.notes && ltb s.notes top) && full) ≡ true → (0 < g.notes) × (g.notes ≤ s.notes) × (s.notes < most_notes g)
    note-past h =
        let z = note-same true h in
        let x = ltb 0 g.notes in
        let y = ltb s.notes (most_notes g) in
        let w : (y && notes_full g v s) ≡ true = and_right x (y && notes_full g v s) z in
        let a : 0 < g.notes = ltb-true 0 g.notes (and_left x (y && notes_full g v s) z) in
        let b : s.notes < most_notes g = ltb-true s.notes (most_notes g) (and_left y (notes_full g v s) w) in
        (a, note-displaces a b (and_right y (notes_full g v s) w), b)

  pub note-tested : (i : ℕ) (t : State) (r b : Bool) → t ≡ after_notes s i → r ≡ notes_full g v t → r ≡ b → notes_full_after g v s i ≡ b
  note-tested i t r b et ef eb = ap (λ (x : State). notes_full g v x) (sym et) ∙ sym ef ∙ eb

-- ---- the call

module _ (v : List ℕ) where
  -- a scan that refuses is the call's refusal
  pub refused : (r : Refusal) → refusal_number r ≡ scan_refusal v
      → ◌≡◌ {A = Room} (record { refusal = refusal_number r; log = no_space; notes = no_space }) (room_of v)
  unfolding room_of scan_rows
  refused r e = rw (← e, ne_eqb (refusal_number r) 0 (refusal-some r))

  clean : 0 ≡ scan_refusal v → first_of (reading.scan_rows v) ≡ 0
  unfolding scan_rows
  clean h = sym h

  pub valid : 0 ≡ scan_refusal v → valid_volume v ≡ true
  valid e = (scanned v (clean e)).volume

  pub done : (x : Scanned) (g : Geometry) (s : State) (a b : Space) → 0 ≡ scan_refusal v → x ≡ scanned_of v
      → g ≡ geometry_of v → s ≡ resumed_state x → a ≡ log_space g v s → b ≡ note_space g v s
      → ◌≡◌ {A = Room} (record { refusal = 0; log = a; notes = b }) (room_of v)
  unfolding room_of restart_state
  done x g s a b z ex eg es ea eb =
      let no : first_of (reading.scan_rows v) ≡ 0 = clean z in
      let es' : s ≡ restart_state v = es ∙ ap resumed_state ex in
      rw (ea, eb, eg, es', no)
