-- T2, the count: the notes stored since upkeep was last idle are at most P + W, at most W of them written and at most P
-- backups.
use mathlib.Core.Path.{◌≡◌, refl, sym, ap, ◌∙◌}
use mathlib.Core.Logic.{◌≢◌}
use mathlib.Core.Bool.{Bool, true, false, not}
use mathlib.Core.List.{List}
use Prim.Native.Nat.{ℕ, zero, suc, ◌+◌, ◌-◌, ◌≤◌, ◌<◌}
use native.Mathlib.Omega.{arith}
use lib.Dec.{eqb}
use lib.ListN.{length}
use borrow.Author.Tests.{eqb-true, eq-eqb, ne_eqb}
use Rattle.laws.proofs.Tables.{by_cases, and_both, true-not-false}
use Rattle.laws.proofs.Notes.{note-sealed}
use Rattle.laws.proofs.Search.{count_same}
use Rattle.model.specs.Checksum.{sealed}
use Rattle.model.specs.Geometry.{geometry_of, item, note_slot}
use Rattle.model.specs.Item.{is_written}
use Rattle.model.specs.Index.{entry_row}
use Rattle.model.specs.Scan.{note_record, index_of}
use Rattle.model.specs.State.{note_whole}
use Rattle.model.specs.Carry.{count_of}
use Rattle.model.specs.AbstractLog.{Logged}
use Rattle.model.specs.declared.{geometry.Geometry.Geometry, item.Note.Note, state.Entry.Entry}
use Rattle.history.proofs.Marks.{note, mark_at, last_by, lsn_by, by-ge, by_le, mark-by, Mark}
use Rattle.history.proofs.Sections.{volume-sized}
use Rattle.history.proofs.Disk.{Holds, Noted, NoteStands}
use Rattle.history.proofs.NoteScan.{note-back}
use Rattle.history.proofs.NoteIndex.{index_is}
use Rattle.upkeep_policy.specs.Upkeep.{written_pages}
use Rattle.upkeep_theory.proofs.Counting.{Notes, few-written, few-backups, few-notes, room-written, room-backup}
use Rattle.upkeep_theory.proofs.NotesTidy.{NotesTidy, alike-holds}
use Rattle.model.specs.Types.{PendingNote}

-- the pages with a written note
abbrev pub wrote_in : List Note → ℕ → Bool
wrote_in ns i = not (eqb (mark_at (suc i) ns (length ns)).written 0)

module _ {C : Type 0} (g : Geometry) (v : List ℕ) (l : List Logged) (h : Holds g v l) (ns : List Note)
    (o : Noted C g v l ns) where
  -- a note among the last N − 1 stands whole
  pub stands-whole : (a : ℕ) → a < length ns → length ns < a + g.notes
      → (note_record g v (suc a) ≡ note ns a) × (note_whole g v (suc a) ≡ true)
  stands-whole a b c =
      let st : NoteStands g v ns a = o.notes.held a b c in
      let r : note_record g v (suc a) ≡ note ns a = rw st (note-back g v l h ns o a b) in
      let sl : sealed 12 (item g v (note_slot g (suc a))) ≡ true = rw st (note-sealed (note ns a)) in
      (r, and_both sl (rw r (eq-eqb (note ns a).number (suc a) (o.fit a b).number_is)))

  -- a page with a written note has a written number
  pub wrote-note : (a : ℕ) → a < length ns → is_written (note ns a) ≡ true → wrote_in ns ((note ns a).page - 1) ≡ true
  wrote-note a b t =
      let f = o.fit a b in
      let p = (note ns a).page in
      let q : suc (p - 1) ≡ p = omega (arith, f.low) in
      let g1 : suc a ≤ last_by true p ns (length ns) = by-ge p ns true (length ns) a b refl t in
      let m : (mark_at p ns (length ns)).written ≡ lsn_by ns (last_by true p ns (length ns)) =
      ap (λ (k : Mark). k.written) (mark-by p ns (length ns)) in
      let nz : (mark_at p ns (length ns)).written ≢ 0 = λ z. go (last_by true p ns (length ns)) refl g1 (sym m ∙ z) in
      rw (q, ne_eqb (mark_at p ns (length ns)).written 0 nz)
    where
      go : (c : ℕ) → last_by true (note ns a).page ns (length ns) ≡ c → suc a ≤ c → lsn_by ns c ≡ 0 → ⊥
      go zero e b z = omega arith
      go (suc c) e b z = omega (arith, (o.fit c (omega (arith, by_le (note ns a).page ns true (length ns)))).some)

  -- the volume's index says the same
  pub written-pages : geometry_of v ≡ g → written_pages v ≡ count_of 64 (wrote_in ns)
  unfolding written_pages
  written-pages e = rw e (count_same _ (wrote_in ns) 64 (λ i b.
      let z : suc i - 1 ≡ i = omega arith in
      let q : (entry_row (index_of g v) i).written ≡ (mark_at (suc i) ns (length ns)).written =
      rw z at (ap (λ (y : Entry). y.written) ((index_is g v l h ns o).entry (suc i) (omega arith) b)) in
      rw q))

  module _ {noting : PendingNote} (k0 : ℕ) (t : NotesTidy g v (length ns) k0 noting)
      (near : suc (length ns) ≤ k0 + g.notes) where
    abbrev since : ℕ
    since = length ns - k0

    -- the i-th note since k0
    abbrev pub since_note : ℕ → Note
    since_note i = note_record g v (suc (k0 + i))

    known-note : (i : ℕ) → i < length ns - k0 → note_record g v (suc (k0 + i)) ≡ note ns (k0 + i)
    known-note i b = (stands-whole (k0 + i) (omega (arith, t.low)) (omega arith)).0

    same_kind : (i j : ℕ) → i < length ns - k0 → j < length ns - k0 → is_written (since_note i) ≡ is_written (since_note j)
        → (since_note j).kind ≡ (since_note i).kind
    same_kind i j a b e =
        let fi = o.fit (k0 + i) (omega (arith, t.low)) in
        let fj = o.fit (k0 + j) (omega (arith, t.low)) in
        rw (known-note i a, known-note j b) (by_cases (is_written (note ns (k0 + i)))
        (λ u.
        let w : is_written (note ns (k0 + j)) ≡ true = sym (rw (known-note i a, known-note j b) at e) ∙ u in
        eqb-true _ 1 w ∙ sym (eqb-true _ 1 u))
        (λ u.
        let w : is_written (note ns (k0 + j)) ≡ false = sym (rw (known-note i a, known-note j b) at e) ∙ u in
        (fj.backed w).kind-is ∙ sym (fi.backed u).kind-is))

    pub since-notes : Notes (length ns - k0) g.pages (λ i. (since_note i).page) (λ i. is_written (since_note i))
        (wrote_in ns)
    since-notes =
        record {
          low = λ i b. rw (known-note i b) (o.fit (k0 + i) (omega (arith, t.low))).low;
          high = λ i b. rw (known-note i b) (o.fit (k0 + i) (omega (arith, t.low))).high;
          known = λ i b u. rw (known-note i b) (wrote-note (k0 + i) (omega (arith, t.low)) (rw (known-note i b) at u));
          differ = λ i j b c e f. true-not-false
              (alike-holds (since_note i) (since_note j) (sym e) (same_kind i j (omega arith) c f))
              (t.differ (k0 + i) (k0 + j) (omega arith) (omega arith) (omega (arith, t.low)));
        }

    module _ (W : ℕ) (w : count_of 64 (wrote_in ns) ≤ W) where
      p64 : g.pages ≤ 64
      p64 = (volume-sized g v h.vol).p-high

      pub since-written : count_of (length ns - k0) (λ i. is_written (since_note i)) ≤ W
      since-written = few-written _ g.pages W _ _ _ since-notes p64 w

      pub since-backups : count_of (length ns - k0) (λ i. not (is_written (since_note i))) ≤ g.pages
      since-backups = few-backups _ g.pages W _ _ _ since-notes p64 w

      -- k − k0 is at most P + W
      pub since-few : length ns ≤ k0 + g.pages + W
      since-few = omega (arith, few-notes _ g.pages W _ _ _ since-notes p64 w, t.low)

      -- a page with a written note, and none since k0
      pub since-room : (p : ℕ) → 1 ≤ p → p ≤ g.pages → wrote_in ns (p - 1) ≡ true
          → ((i : ℕ) → i < length ns - k0 → is_written (since_note i) ≡ true → (since_note i).page ≢ p)
          → suc (count_of (length ns - k0) (λ i. is_written (since_note i))) ≤ W
      since-room = room-written _ g.pages W _ _ _ since-notes p64 w

      -- a page without a backup note since k0
      pub since-room-backup : (p : ℕ) → 1 ≤ p → p ≤ g.pages
          → ((i : ℕ) → i < length ns - k0 → is_written (since_note i) ≡ false → (since_note i).page ≢ p)
          → suc (count_of (length ns - k0) (λ i. not (is_written (since_note i)))) ≤ g.pages
      since-room-backup = room-backup _ g.pages W _ _ _ since-notes p64 w
