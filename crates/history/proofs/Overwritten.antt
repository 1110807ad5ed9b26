-- What a call's store in the log or in the notes overwrites is not whole, or spare.
use mathlib.Core.Path.{◌≡◌, refl, sym, ap, ◌∙◌, subst}
use mathlib.Core.Logic.{◌≢◌, ⊎_elim}
use mathlib.Core.Bool.{true}
use mathlib.Core.List.{List}
use Prim.Native.Nat.{ℕ, suc, ◌+◌, ◌-◌, ◌≤◌, ◌<◌}
use native.Mathlib.Omega.{arith}
use native.Mathlib.Decide.{dec_lt}
use lib.ListN.{length}
use lib.Dec.{eqb, ltb}
use borrow.Author.Tests.{eqb-false}
use Rattle.laws.proofs.Tables.{by_cases, true-not-false}
use Rattle.laws.proofs.Ring.{slot-low, slot-again, slot_apart}
use Rattle.model.specs.Tables.{first_of}
use Rattle.model.specs.Checksum.{sealed, seal_image}
use Rattle.model.specs.Geometry.{page_at, slot_at, record_at, note_at, geometry_of, item, slot_of, log_slot, note_slot}
use Rattle.model.specs.Item.{record_of, note_of}
use Rattle.model.specs.Passes.{image_count, image_place, first_old}
use Rattle.model.specs.Scan.{note_record}
use Rattle.model.specs.Refusals.{page_dirty, begin_rows, load_rows, change_rows, force_rows, write_rows, backup_rows}
use Rattle.model.specs.Refusals.{release_rows, note_rows, start_carry_rows, restamp_rows, finish_carry_rows}
use Rattle.model.specs.Outcome.{StoredItem, nothing, one_item, new_heading, decided}
use Rattle.model.specs.Effects.{note_stored, backup_done, begin_done, change_done, force_done, load_done, release_done, restamp_done, write_outcome}
use Rattle.model.specs.Calls.{Call, outcome_of, force_of, note_call}
use Rattle.model.specs.declared.{command.Command.Command, geometry.Geometry.Geometry, item.Note.Note}
use Rattle.model.specs.declared.{state.State.State}
use Rattle.model.specs.declared.command.Command.TheVariants.{Begin, Load, Force, Write, Release, StartCarry, Restamp, FinishCarry}
use Rattle.model.specs.declared.command.Command.TheVariants.{Change, Backup, Note as NoteCall}
use Rattle.model.specs.AbstractLog.{Logged}
use Rattle.model.specs.RingClaim.{SpareRecord, SpareNote, RecordFree, NoteFree}
use Rattle.history.proofs.Logs.{at}
use Rattle.history.proofs.Disk.{NoteStands}
use Rattle.history.proofs.Inv.{PendingOk}
use Rattle.history.proofs.LogScan.{rec-at}
use Rattle.history.proofs.NoteScan.{note-back, note-count}
use Rattle.history.proofs.Context.{Ctx, geo, len}
use Rattle.history.proofs.Asked.{read, whole}
use Rattle.history.proofs.Lost.{spare-record}
use Rattle.history.proofs.Marks.{note as note_in}
use Rattle.model.specs.Types.{PendingNote, None, Some}

-- ---- which calls store there

-- a log record (3), a note (4), anything else
abbrev sort_of : StoredItem → ℕ
sort_of nothing = 0
sort_of (one_item (page_at i) xs) = 1
sort_of (one_item (slot_at i) xs) = 2
sort_of (one_item (record_at i) xs) = 3
sort_of (one_item (note_at i) xs) = 4
sort_of (new_heading tag) = 5

-- the slot of the log or of the notes
abbrev slot_in : StoredItem → ℕ
slot_in nothing = 0
slot_in (one_item (page_at i) xs) = 0
slot_in (one_item (slot_at i) xs) = 0
slot_in (one_item (record_at i) xs) = i
slot_in (one_item (note_at i) xs) = i
slot_in (new_heading tag) = 0

module _ (v m : List ℕ) (s : State) where
  -- neither
  abbrev Apart : StoredItem → Type 0
  Apart x = (sort_of x ≢ 3) × (sort_of x ≢ 4)

  none : Apart nothing
  none = (λ z. omega arith, λ z. omega arith)

  image-apart : (g : Geometry) (i : ℕ) (xs : List ℕ) → Apart (one_item (image_place g i) xs)
  image-apart g i xs = by_cases (ltb i g.pages)
      (λ t. rw t (λ z. omega arith, λ z. omega arith))
      (λ t. rw t (λ z. omega arith, λ z. omega arith))

  -- only Force stores in the log, only Note in the notes
  only : (c : Call) → (sort_of (outcome_of c v m s).stored ≡ 3 → c.0 ≡ Force) × (sort_of (outcome_of c v m s).stored ≡ 4 → c.0 ≡ NoteCall)
  unfolding decided begin_done load_done change_done force_done write_outcome backup_done release_done restamp_done
  only (Begin p f fill, _) = by_cases (eqb (first_of (begin_rows v m s p f)) 0)
      (λ t. rw t (λ z. absurd (omega arith), λ z. absurd (omega arith))) (λ t. rw t (λ z. absurd (omega arith), λ z. absurd (omega arith)))
  only (Load p f, _) = by_cases (eqb (first_of (load_rows v m s p f)) 0)
      (λ t. rw t (λ z. absurd (omega arith), λ z. absurd (omega arith))) (λ t. rw t (λ z. absurd (omega arith), λ z. absurd (omega arith)))
  only (Change p c, payload) = by_cases (eqb (first_of (change_rows v m s p c)) 0)
      (λ t. rw t (λ z. absurd (omega arith), λ z. absurd (omega arith))) (λ t. rw t (λ z. absurd (omega arith), λ z. absurd (omega arith)))
  only (Force, _) = by_cases (eqb (first_of (force_rows v m s)) 0)
      (λ t. rw t (by_cases (eqb s.pending 0)
      (λ u. rw u (λ z. refl, λ z. absurd (omega arith))) (λ u. rw u (λ z. refl, λ z. absurd (omega arith)))))
      (λ t. rw t (λ z. refl, λ z. absurd (omega arith)))
  only (Write p, _) = by_cases (eqb (first_of (write_rows v m s p)) 0)
      (λ t. rw t (by_cases (page_dirty s p)
      (λ u. rw u (λ z. absurd (omega arith), λ z. absurd (omega arith)))
      (λ u. rw u (λ z. absurd (omega arith), λ z. absurd (omega arith)))))
      (λ t. rw t (λ z. absurd (omega arith), λ z. absurd (omega arith)))
  only (Backup p b, _) = by_cases (eqb (first_of (backup_rows v m s p b)) 0)
      (λ t. rw t (λ z. absurd (omega arith), λ z. absurd (omega arith))) (λ t. rw t (λ z. absurd (omega arith), λ z. absurd (omega arith)))
  only (Release p, _) = by_cases (eqb (first_of (release_rows v m s p)) 0)
      (λ t. rw t (λ z. absurd (omega arith), λ z. absurd (omega arith))) (λ t. rw t (λ z. absurd (omega arith), λ z. absurd (omega arith)))
  only (NoteCall, _) = by_cases (eqb (first_of (note_rows v m s)) 0)
      (λ t. rw t (go s.note)) (λ t. rw t (λ z. absurd (omega arith), λ z. refl))
    where
      go : (n : PendingNote) → (sort_of (note_stored v m s n).stored ≡ 3 → NoteCall ≡ Force) × (sort_of (note_stored v m s n).stored ≡ 4 → NoteCall ≡ NoteCall)
      go None = (λ z. absurd (omega arith), λ z. refl)
      go (Some x) = (λ z. absurd (omega arith), λ z. refl)
  only (StartCarry, _) = by_cases (eqb (first_of (start_carry_rows v m s)) 0)
      (λ t. rw t (λ z. absurd (omega arith), λ z. absurd (omega arith))) (λ t. rw t (λ z. absurd (omega arith), λ z. absurd (omega arith)))
  only (Restamp, _) = by_cases (eqb (first_of (restamp_rows v m s)) 0)
      (λ t. rw t (by_cases (ltb (first_old (geometry_of v) v s.index) (image_count (geometry_of v)))
      (λ u.
      let i = first_old (geometry_of v) v s.index in
      let a = image-apart (geometry_of v) i (seal_image (geometry_of v) (item (geometry_of v) v (image_place (geometry_of v) i))) in
      rw u (λ z. absurd (a.0 z), λ z. absurd (a.1 z)))
      (λ u. rw u (λ z. absurd (omega arith), λ z. absurd (omega arith)))))
      (λ t. rw t (λ z. absurd (omega arith), λ z. absurd (omega arith)))
  only (FinishCarry, _) = by_cases (eqb (first_of (finish_carry_rows v m s)) 0)
      (λ t. rw t (λ z. absurd (omega arith), λ z. absurd (omega arith))) (λ t. rw t (λ z. absurd (omega arith), λ z. absurd (omega arith)))

  -- where they store
  force-stores : (i : ℕ) (xs : List ℕ) → (force_of v m s).stored ≡ one_item (record_at i) xs
      → (1 ≤ s.pending) × (slot_of (geometry_of v).records (s.durable + 1) ≡ i)
  unfolding decided force_done
  force-stores i xs = by_cases (eqb (first_of (force_rows v m s)) 0)
      (λ t. rw t (by_cases (eqb s.pending 0)
      (λ u. rw u (λ e. absurd (let z : 0 ≡ 3 = ap sort_of e in omega arith)))
      (λ u. let some : s.pending ≢ 0 = eqb-false s.pending 0 u in rw u (λ e. (omega arith, ap slot_in e)))))
      (λ t. rw t (λ e. absurd (let z : 0 ≡ 3 = ap sort_of e in omega arith)))

  note-stores : (i : ℕ) (xs : List ℕ) → (note_call v m s).stored ≡ one_item (note_at i) xs
      → (x : Note) × (s.note ≡ Some x) × (slot_of (geometry_of v).notes (s.notes + 1) ≡ i)
  unfolding decided
  note-stores i xs = by_cases (eqb (first_of (note_rows v m s)) 0)
      (λ t. rw t (go s.note refl))
      (λ t. rw t (λ e. absurd (let z : 0 ≡ 4 = ap sort_of e in omega arith)))
    where
      go : (n : PendingNote) → s.note ≡ n → (note_stored v m s n).stored ≡ one_item (note_at i) xs
          → (x : Note) × (s.note ≡ Some x) × (slot_of (geometry_of v).notes (s.notes + 1) ≡ i)
      go None q e = absurd (let z : 0 ≡ 4 = ap sort_of e in omega arith)
      go (Some x) q e = (x, q, ap slot_in e)

-- ---- what they overwrite

module _ {C : Type 0} {g : Geometry} {v m : List ℕ} {past : List StoredItem} {s : State} {k w : List Logged}
    (x : Ctx C g v m past s k w) where
  -- the slot of the next record
  log-free : 1 ≤ s.pending → (i : ℕ) → slot_of g.records (suc (length k)) ≡ i → sealed 60 (item g v (record_at i)) ≡ true
      → SpareRecord v (record_of (item g v (record_at i))).page (record_of (item g v (record_at i))).lsn
  log-free some i e t =
      let L = g.records in
      let d = length k in
      elim (dec_lt (length k) g.records) [
        | yes y ↦ absurd (true-not-false t (rw (sym e ∙ slot-low g.records (length k) y) (x.hs.tail.gap y)))
        | no z ↦
            let j = length k - g.records in
            let q : length k ≡ (length k - g.records) + g.records = omega arith in
            let same : slot_of g.records (suc (length k - g.records)) ≡ i =
            sym (slot-again g.records (length k - g.records)) ∙ (ap (λ (n : ℕ). slot_of g.records (suc n)) (sym q) ∙ e) in
            old j q same
      ]
    where
      old : (j : ℕ) → length k ≡ j + g.records → slot_of g.records (suc j) ≡ i
          → SpareRecord v (record_of (item g v (record_at i))).page (record_of (item g v (record_at i))).lsn
      old j q same =
          let sp = x.al.displaced j (omega (arith, q, len x, x.al.log.pending-is)) in
          let at_slot : item g v (log_slot g (suc j)) ≡ item g v (record_at i) = ap (λ (n : ℕ). item g v (record_at n)) same in
          ⊎_elim
          (λ st.
          let f : record_of (item g v (record_at i)) ≡ _ =
          ap record_of (sym at_slot ∙ st) ∙ (rec-at g v k x.hs x.ns x.no j sp.0).fields in
          rw f (spare-record g v k x.hs x.ns x.no j (at k j).page sp.0 refl sp.1))
          (λ st. absurd (true-not-false t (ap (sealed 60) (sym at_slot) ∙ st.1)))
          (x.no.run.oldest j sp.0 q)

  pub record-free : (c : Call) (i : ℕ) (xs : List ℕ) → (outcome_of c v m s).stored ≡ one_item (record_at i) xs → RecordFree v i
  record-free c i xs e =
      let q = (only v m s c).0 (ap sort_of e) in
      let st = force-stores v m s i xs (subst (λ (y : Command). (outcome_of (y, c.1) v m s).stored ≡ one_item (record_at i) xs) q e) in
      let n : s.durable + 1 ≡ suc (length k) = omega (arith, x.al.log.durable-is) in
      rw (geo x) (log-free st.0 i (rw (geo x, n) at st.1))

  -- the slot of the next note
  notes-free : (y : Note) → s.note ≡ Some y → (i : ℕ) → slot_of g.notes (suc (length x.ns)) ≡ i
      → sealed 12 (item g v (note_at i)) ≡ true → SpareNote v i (note_of (item g v (note_at i)))
  notes-free y p i e t =
      elim (dec_lt (length x.ns) g.notes) [
        | yes l ↦ absurd (true-not-false t (rw (sym e ∙ slot-low g.notes (length x.ns) l) (x.no.tail.gap l)))
        | no z ↦
            let j = length x.ns - g.notes in
            let q : length x.ns ≡ (length x.ns - g.notes) + g.notes = omega arith in
            let same : slot_of g.notes (suc (length x.ns - g.notes)) ≡ i =
            sym (slot-again g.notes (length x.ns - g.notes))
            ∙ (ap (λ (n : ℕ). slot_of g.notes (suc n)) (sym q) ∙ e) in
            old j q same
      ]
    where
      room : PendingOk C g v k x.ns (Some y)
      room = subst (λ (n : PendingNote). PendingOk C g v k x.ns n) p x.al.note-ok

      old : (j : ℕ) → length x.ns ≡ j + g.notes → slot_of g.notes (suc j) ≡ i → SpareNote v i (note_of (item g v (note_at i)))
      old j q same =
          let ns = x.ns in
          let b : j < length x.ns = omega (arith, room.3.0) in
          let l = room.3.1 j b q in
          let at_slot : item g v (note_slot g (suc j)) ≡ item g v (note_at i) = ap (λ (n : ℕ). item g v (note_at n)) same in
          let stands : NoteStands g v x.ns l.place = x.no.notes.held l.place l.below (omega (arith, l.above)) in
          let r : note_record g v (suc l.place) ≡ note_in x.ns l.place = read x l.place l.below stands in
          ⊎_elim
          (λ st.
          let f : note_of (item g v (note_at i)) ≡ note_in x.ns j =
          ap note_of (sym at_slot ∙ st) ∙ note-back g v k x.hs x.ns x.no j b in
          record {
            later = suc l.place;
            above = rw f (omega (arith, (x.no.fit j b).number_is, l.above));
            below = rw (geo x, note-count g v k x.hs x.ns x.no) l.below;
            whole = rw (geo x) (whole x l.place l.below stands);
            elsewhere = λ u.
                slot_apart g.notes j l.place l.above (omega (arith, l.below, q))
                (same ∙ sym (rw (geo x) at u));
            page = rw (f, geo x, r) l.page-is;
            kind = rw (f, geo x, r) l.kind-is;
          })
          (λ st. absurd (true-not-false t (ap (sealed 12) (sym at_slot) ∙ st.1)))
          (x.no.notes.oldest j b q)

  pub note-free : (c : Call) (i : ℕ) (xs : List ℕ) → (outcome_of c v m s).stored ≡ one_item (note_at i) xs → NoteFree v i
  note-free c i xs e =
      let q = (only v m s c).1 (ap sort_of e) in
      let st = note-stores v m s i xs (subst (λ (y : Command). (outcome_of (y, c.1) v m s).stored ≡ one_item (note_at i) xs) q e) in
      let n : s.notes + 1 ≡ suc (length x.ns) = omega (arith, x.al.notes-is) in
      rw (geo x) (notes-free st.0 st.1 i (rw (geo x, n) at st.2))
