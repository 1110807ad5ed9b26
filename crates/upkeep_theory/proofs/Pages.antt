-- In a machine that a history reached, the page of a needed note or record is a page of the store, and has a durable
-- change.
use mathlib.Core.Path.{◌≡◌, refl, ap, ◌∙◌, subst}
use mathlib.Core.Logic.{⊎_elim}
use mathlib.Core.Bool.{Bool, true, ◌&&◌, not}
use mathlib.Core.List.{List, [], ◌∷◌}
use Prim.Native.Nat.{ℕ, suc, ◌+◌, ◌-◌, ◌≤◌, ◌<◌}
use native.Mathlib.Omega.{arith}
use native.Mathlib.Decide.{dec_lt}
use lib.Dec.{eqb, leb, ltb}
use lib.ListN.{length}
use borrow.Author.Tests.{le-ltb, ltb-true}
use Rattle.laws.proofs.Tables.{and_left, and_right, all-at, true-not-false}
use Rattle.laws.proofs.Ring.{Run}
use Rattle.model.specs.Tables.{every, within}
use Rattle.model.specs.Checksum.{sealed}
use Rattle.model.specs.Geometry.{ring, item, log_slot, note_slot}
use Rattle.model.specs.Index.{entry_of}
use Rattle.model.specs.Scan.{log_record, note_record}
use Rattle.model.specs.State.{record_needed, note_needed, note_whole, note_like}
use Rattle.model.specs.Outcome.{StoredItem}
use Rattle.model.specs.AbstractLog.{Logged}
use Rattle.model.specs.declared.{geometry.Geometry.Geometry, item.Note.Note, item.LogRecord.LogRecord}
use Rattle.model.specs.declared.state.State.{State}
use Rattle.history.proofs.Logs.{at, last_of, last-ge}
use Rattle.history.proofs.Marks.{note}
use Rattle.history.proofs.Disk.{Stands, Torn, NoteStands, NoteTorn}
use Rattle.history.proofs.NoteScan.{note-back}
use Rattle.history.proofs.LogScan.{rec-at}
use Rattle.history.proofs.Context.{Ctx}
use Rattle.upkeep_policy.specs.Upkeep.{note_position, log_position, note_ahead, log_ahead, reserve}

-- an item of the last L that is not torn stands
stands : (ring : Bool) (L n : ℕ) (W T S : ℕ → Type 0) → Run ring L n W T S → (i : ℕ) → i < n → n ≤ i + L
    → (T i → ⊥) → W i
stands ring L n W T S r i b c t = elim (dec_lt n (i + L)) [
  | yes y ↦ r.held i b y
  | no z ↦ ⊎_elim (λ w. w) (λ h. absurd (t h.1)) (r.oldest i b (omega arith))
]

-- a page of the store with a durable change
pub record Known (pages : ℕ) (k : List Logged) (p : ℕ) : Type 0 where
  pub low : 1 ≤ p
  pub high : p ≤ pages
  pub some : 1 ≤ last_of p k

module _ {C : Type 0} {g : Geometry} {v m : List ℕ} {past : List StoredItem} {s : State} {k w : List Logged}
    (x : Ctx C g v m past s k w) where
  -- a note that stands whole among the last N
  pub note-stands : (j : ℕ) → suc j ≤ s.notes → s.notes ≤ j + g.notes → note_whole g v (suc j) ≡ true
      → note_record g v (suc j) ≡ note x.ns j
  note-stands j b c t =
      let jb : j < length x.ns = omega (arith, x.al.notes-is) in
      let st : NoteStands g v x.ns j =
      stands (ring g) g.notes (length x.ns) (NoteStands g v x.ns) (NoteTorn g v) _ x.no.notes j jb
      (omega (arith, x.al.notes-is))
      (λ u. true-not-false (and_left (sealed 12 (item g v (note_slot g (suc j))))
      (eqb (note_record g v (suc j)).number (suc j)) t) u) in
      rw st (note-back g v k x.hs x.ns x.no j jb)

  pub note-known : 2 ≤ g.notes → (i : ℕ) → 1 ≤ i → i ≤ 2 → note_ahead g v s i ≡ true
      → Known g.pages k (note_record g v (note_position g s i)).page
  unfolding note_ahead note_needed
  note-known two i lo hi t =
      let a =
      ltb-true g.notes (s.notes + i)
      (and_left (ltb g.notes (s.notes + i)) (note_needed g v s.notes (note_position g s i)) t) in
      let n : note_needed g v s.notes (note_position g s i) ≡ true =
      and_right (ltb g.notes (s.notes + i)) (note_needed g v s.notes (note_position g s i)) t in
      let j = s.notes + i - g.notes - 1 in
      let q : note_position g s i ≡ suc j = omega arith in
      let u : note_whole g v (note_position g s i) ≡ true =
      and_left (note_whole g v (note_position g s i)) (every (s.notes - note_position g s i)
      (λ c. not (note_whole g v (suc (note_position g s i + c)) && note_like g v (note_position g s i)
      (suc (note_position g s i + c))))) n in
      let e = note-stands j (omega arith) (omega arith) (subst (λ (y : ℕ). note_whole g v y ≡ true) q u) in
      let f = x.no.fit j (omega (arith, x.al.notes-is)) in
      let p : (note_record g v (note_position g s i)).page ≡ (note x.ns j).page =
      ap (λ (y : ℕ). (note_record g v y).page) q ∙ ap (λ (y : Note). y.page) e in
      rw p (record {
        low = f.low;
        high = f.high;
        some = let z : suc ((note x.ns j).lsn - 1) ≤ last_of (note x.ns j).page k =
            last-ge (note x.ns j).page k (length k) ((note x.ns j).lsn - 1) (omega (arith, f.some, f.below))
            f.page-is in
            omega arith;
      })

  -- a record that stands whole among the last L
  pub record-stands : (j : ℕ) → suc j ≤ s.durable → s.durable ≤ j + g.records
      → sealed 60 (item g v (log_slot g (suc j))) ≡ true
      → (log_record g v (suc j)).page ≡ (at k j).page
  record-stands j b c t =
      let jb : j < length k = omega (arith, x.al.log.durable-is) in
      let st : Stands g v k j =
      stands (ring g) g.records (length k) (Stands g v k) (Torn g v) _ x.no.run j jb
      (omega (arith, x.al.log.durable-is))
      (λ u. true-not-false t u) in
      rw st (ap (λ (y : LogRecord). y.page) (rec-at g v k x.hs x.ns x.no j jb).fields)

  pub record-known : (i : ℕ) → 1 ≤ i → i ≤ reserve g → log_ahead g v s i ≡ true
      → Known g.pages k (log_record g v (log_position g s i)).page
  unfolding log_ahead record_needed
  record-known i lo hi t =
      let a =
      ltb-true g.records (s.durable + i)
      (and_left (ltb g.records (s.durable + i)) (record_needed g v s (log_position g s i)) t) in
      let n : record_needed g v s (log_position g s i) ≡ true =
      and_right (ltb g.records (s.durable + i)) (record_needed g v s (log_position g s i)) t in
      let j = s.durable + i - g.records - 1 in
      let pos = log_position g s i in
      let q : log_position g s i ≡ suc j = omega arith in
      let en = entry_of s.index (log_record g v pos).page in
      let tests = sealed 60 (item g v (log_slot g pos)) ∷ eqb (log_record g v pos).lsn pos
      ∷ not (within g.pages (log_record g v pos).page && (not (eqb en.slot 0) && leb pos en.backup)) ∷ [] in
      let u : sealed 60 (item g v (log_slot g pos)) ≡ true =
      all-at tests 0 (rw (le-ltb s.durable pos (omega arith)) at n) in
      let jb : j < length k = omega (arith, x.al.log.durable-is) in
      let e =
      record-stands j (omega arith) (omega arith)
      (subst (λ (y : ℕ). sealed 60 (item g v (log_slot g y)) ≡ true) q u) in
      let p : (log_record g v (log_position g s i)).page ≡ (at k j).page = ap (λ (y : ℕ). (log_record g v y).page) q ∙ e in
      let f = x.hs.fair j jb in
      rw p (record {
        low = f.low;
        high = f.high;
        some = let z : suc j ≤ last_of (at k j).page k = last-ge (at k j).page k (length k) j jb refl in omega arith;
      })
