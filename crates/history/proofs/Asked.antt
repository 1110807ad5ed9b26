-- What refusals 12 and 14, not given, tell: there is a number left, and what the next record or note will displace is not needed.
use mathlib.Core.Path.{◌≡◌, refl, ap}
use mathlib.Core.Logic.{◌≢◌}
use mathlib.Core.Bool.{Bool, true, false, not, ◌&&◌, ◌||◌}
use mathlib.Core.List.{List}
use Prim.Native.Nat.{ℕ, zero, suc, ◌+◌, ◌-◌, ◌≤◌, ◌<◌}
use native.Mathlib.Omega.{arith}
use lib.ListN.{length}
use lib.Dec.{eqb, leb, ltb}
use borrow.Author.Tests.{eq-eqb, eqb-true, eqb-false, le-leb, leb-true, leb-false, ltb-false, not-false}
use Rattle.laws.proofs.Tables.{by_cases, and_left, and_right, and_both, or-neither, true-not-false}
use Rattle.laws.proofs.Ring.{run-asked}
use Rattle.laws.proofs.Notes.{note-sealed}
use Rattle.model.specs.Tables.{every, within}
use Rattle.model.specs.Checksum.{sealed}
use Rattle.model.specs.Geometry.{item, ring, most, most_notes, log_slot, note_slot}
use Rattle.model.specs.Index.{entry_of}
use Rattle.model.specs.Scan.{log_record, note_record}
use Rattle.model.specs.State.{last_number, record_needed, log_full, note_whole, note_like, note_needed, notes_full}
use Rattle.model.specs.Outcome.{StoredItem}
use Rattle.model.specs.AbstractLog.{Logged}
use Rattle.model.specs.declared.{geometry.Geometry.Geometry, item.Note.Note, state.Entry.Entry, state.State.State}
use Rattle.history.proofs.Logs.{at}
use Rattle.history.proofs.Marks.{note, mark_at, Later}
use Rattle.history.proofs.Sections.{most-plain, notes-plain}
use Rattle.history.proofs.Disk.{Stands, Torn, Spare, NoteStands, NoteTorn}
use Rattle.history.proofs.NoteScan.{note-back}
use Rattle.history.proofs.LogScan.{rec-at}
use Rattle.history.proofs.Inv.{Room}
use Rattle.history.proofs.Context.{Ctx, sized, sum, entry-is}

-- a test that fails for some number
every-not : (p : ℕ → Bool) (n : ℕ) → every n p ≡ false → (i : ℕ) × (i < n) × (p i ≡ false)
unfolding every
every-not p zero h = absurd (true-not-false refl h)
every-not p (suc n) h = by_cases (p n)
    (λ t. let r : every n p ≡ false = left (every n p) (p n) t h in let q = every-not p n r in (q.0, omega (arith, q.1), q.2))
    (λ t. (n, omega arith, t))
  where
    left : (a b : Bool) → b ≡ true → (a && b) ≡ false → a ≡ false
    left true b t h = absurd (true-not-false t h)
    left false b t h = refl

and-not : (a b : Bool) → a ≡ true → (a && b) ≡ false → b ≡ false
and-not true b t h = h
and-not false b t h = absurd (true-not-false t refl)

module _ {C : Type 0} {g : Geometry} {v m : List ℕ} {past : List StoredItem} {s : State} {k w : List Logged}
    (x : Ctx C g v m past s k w) where
  -- ---- 12

  module _ (t : log_full g v s ≡ false) where
    halves : (leb (most g) (last_number s) ≡ false)
        × ((ring g && (leb g.records (last_number s) && record_needed g v s (suc (last_number s) - g.records))) ≡ false)
    unfolding log_full
    halves = or-neither (leb (most g) (last_number s))
        (ring g && (leb g.records (last_number s) && record_needed g v s (suc (last_number s) - g.records))) t

    pub log-room : length x.all < most g
    log-room = omega (arith, leb-false (most g) (s.durable + s.pending) halves.0, sum x)

    unneeded : (i : ℕ) → length x.all ≡ i + g.records → record_needed g v s (suc i) ≡ false
    unneeded i e =
        let r : ring g ≡ true = by_cases (ring g) (λ y. y) (λ y. absurd (omega (arith, log-room, most-plain g (sized x) y))) in
        let q : suc (last_number s) - g.records ≡ suc i = omega (arith, sum x) in
        let b : leb g.records (last_number s) ≡ true = le-leb g.records (last_number s) (omega (arith, sum x)) in
        rw q at (and-not (leb g.records (last_number s)) _ b (and-not (ring g) _ r halves.1))

    pub log-asked : (i : ℕ) → length x.all ≡ i + g.records → (i < length k) × Spare k x.ns i
    unfolding record_needed
    log-asked i e =
        let r = item g v (log_slot g (suc i)) in
        let en = entry_of s.index (log_record g v (suc i)).page in
        let need = sealed 60 r && (eqb (log_record g v (suc i)).lsn (suc i)
        && not (within g.pages (log_record g v (suc i)).page && (not (eqb en.slot 0) && leb (suc i) en.backup))) in
        let u = or-neither (ltb s.durable (suc i)) need (unneeded i e) in
        let b : i < length k = let z : suc i ≤ s.durable = ltb-false s.durable (suc i) u.0 in
        omega (arith, x.al.log.durable-is) in (
          b,
          run-asked (ring g) g.records (length k) (Stands g v k) (Torn g v) (Spare k x.ns) x.no.run i b
              (λ st. spare i b st u.1),
        )
      where
        spare : (i : ℕ) → i < length k → Stands g v k i
            → (sealed 60 (item g v (log_slot g (suc i))) && (eqb (log_record g v (suc i)).lsn (suc i)
            && not (within g.pages (log_record g v (suc i)).page
            && (not (eqb (entry_of s.index (log_record g v (suc i)).page).slot 0)
            && leb (suc i) (entry_of s.index (log_record g v (suc i)).page).backup)))) ≡ false
            → Spare k x.ns i
        spare i b st u =
            let ra = rec-at g v k x.hs x.ns x.no i b in
            let f = x.hs.fair i b in
            let en = entry_of s.index (at k i).page in
            let u₁ : not (within g.pages (at k i).page && (not (eqb en.slot 0) && leb (suc i) en.backup)) ≡ false =
            rw (st, ra.sealed-is, ra.fields, eq-eqb (suc i) (suc i) refl) at u in
            let u₂ = not-false (within g.pages (at k i).page && (not (eqb en.slot 0) && leb (suc i) en.backup)) u₁ in
            let u₃ = and_right (not (eqb en.slot 0)) (leb (suc i) en.backup)
            (and_right (within g.pages (at k i).page) (not (eqb en.slot 0) && leb (suc i) en.backup) u₂) in
            let q : en.backup ≡ (mark_at (at k i).page x.ns (length x.ns)).backup =
            ap (λ (y : Entry). y.backup) (entry-is x (at k i).page f.low f.high) in
            omega (arith, leb-true (suc i) en.backup u₃)

  -- ---- 14

  -- a note that stands, as it is read
  pub read : (j : ℕ) → j < length x.ns → NoteStands g v x.ns j → note_record g v (suc j) ≡ note x.ns j
  read j b st = rw st (note-back g v k x.hs x.ns x.no j b)

  pub whole : (j : ℕ) → j < length x.ns → NoteStands g v x.ns j → note_whole g v (suc j) ≡ true
  whole j b st =
      let r = read j b st in
      let sl : sealed 12 (item g v (note_slot g (suc j))) ≡ true = rw st (note-sealed (note x.ns j)) in
      and_both sl (rw r (eq-eqb (note x.ns j).number (suc j) (x.no.fit j b).number_is))

  module _ (t : notes_full g v s ≡ false) where
    abbrev last : ℕ
    last = s.notes

    parts : (eqb g.notes 0 ≡ false)
        × ((leb (most_notes g) last || (ring g && (leb g.notes last && note_needed g v last (suc last - g.notes)))) ≡ false)
    unfolding notes_full
    parts = or-neither (eqb g.notes 0)
        (leb (most_notes g) last || (ring g && (leb g.notes last && note_needed g v last (suc last - g.notes)))) t

    parts' : (leb (most_notes g) last ≡ false) × ((ring g && (leb g.notes last && note_needed g v last (suc last - g.notes))) ≡ false)
    parts' =
        or-neither (leb (most_notes g) last) (ring g && (leb g.notes last && note_needed g v last (suc last - g.notes))) parts.1

    pub notes-room : length x.ns < most_notes g
    notes-room = omega (arith, leb-false (most_notes g) s.notes parts'.0, x.al.notes-is)

    note-unneeded : (i : ℕ) → length x.ns ≡ i + g.notes → note_needed g v (length x.ns) (suc i) ≡ false
    note-unneeded i e =
        let r : ring g ≡ true = by_cases (ring g) (λ y. y) (λ y. absurd (omega (arith, notes-room, notes-plain g (sized x) y))) in
        let q : suc last - g.notes ≡ suc i = omega (arith, x.al.notes-is) in
        let b : leb g.notes last ≡ true = le-leb g.notes last (omega (arith, x.al.notes-is)) in
        rw (q, x.al.notes-is) at (and-not (leb g.notes last) _ b (and-not (ring g) _ r parts'.1))

    alike : (i j : ℕ) (y z : Note) → note_record g v i ≡ y → note_record g v j ≡ z → note_like g v i j ≡ true
        → (z.page ≡ y.page) × (z.kind ≡ y.kind)
    alike i j y z e q u =
        let u' : (eqb z.page y.page && eqb z.kind y.kind) ≡ true = rw (e, q) at u in (
          eqb-true z.page y.page (and_left (eqb z.page y.page) (eqb z.kind y.kind) u'),
          eqb-true z.kind y.kind (and_right (eqb z.page y.page) (eqb z.kind y.kind) u'),
        )

    later : (i : ℕ) → i < length x.ns → length x.ns ≡ i + g.notes → NoteStands g v x.ns i → Later x.ns i
    unfolding note_needed
    later i b e st =
        let n = length x.ns in
        let q = every-not (λ c. not (note_whole g v (suc (suc i + c)) && note_like g v (suc i) (suc (suc i + c)))) (n - suc i)
        (and-not (note_whole g v (suc i)) _ (whole i b st) (note-unneeded i e)) in
        let j = suc i + q.0 in
        let jb : suc i + q.0 < length x.ns = omega (arith, q.1) in
        let sj : NoteStands g v x.ns (suc i + q.0) = x.no.notes.held (suc i + q.0) jb (omega arith) in
        let u = and_right (note_whole g v (suc j)) (note_like g v (suc i) (suc j))
        (not-false (note_whole g v (suc j) && note_like g v (suc i) (suc j)) q.2) in
        let u' = alike (suc i) (suc j) (note x.ns i) (note x.ns j) (read i b st) (read j jb sj) u in
        record { place = j; above = omega arith; below = jb; page-is = u'.0; kind-is = u'.1 }

    pub notes-asked : Room g x.ns
    notes-asked = (
      let ne : g.notes ≢ 0 = eqb-false g.notes 0 parts.0 in omega arith,
      λ i b e. run-asked (ring g) g.notes (length x.ns) (NoteStands g v x.ns) (NoteTorn g v) (Later x.ns)
          x.no.notes i b (later i b e),
    )
