-- What T2's steps ask of a machine that a history reached: the marks of the next states, and what an owed backup says.
use mathlib.Core.Path.{◌≡◌, refl, sym, ap, ◌∙◌}
use mathlib.Core.Logic.{◌≢◌}
use mathlib.Core.Bool.{true, false, ◌&&◌, not}
use mathlib.Core.List.{List, [], ◌∷◌}
use Prim.Native.Nat.{ℕ, suc, ◌+◌, ◌-◌, ◌≤◌, ◌<◌}
use native.Mathlib.Omega.{arith}
use native.Mathlib.Decide.{ℕ_discrete}
use lib.Dec.{eqb, leb}
use lib.ListN.{length, get_or-append}
use lib.Seq.{get_or-set_same, get_or-set_other}
use borrow.Author.Tests.{le-ltb}
use Rattle.laws.proofs.Tables.{by_cases, all-at}
use Rattle.model.specs.Tables.{within}
use Rattle.model.specs.Checksum.{sealed}
use Rattle.model.specs.Geometry.{item, log_slot}
use Rattle.model.specs.Item.{image_lsn, is_written, note_of, note_bytes}
use Rattle.model.specs.Index.{empty_entry, entry_of, with_note, enter_note}
use Rattle.model.specs.Scan.{log_record, index_of}
use Rattle.model.specs.State.{frame_bytes, holder, record_needed}
use Rattle.model.specs.Outcome.{StoredItem}
use Rattle.model.specs.Effects.{appended_state, forced_state, noted_state}
use Rattle.model.specs.Restart.{restart_state}
use Rattle.model.specs.AbstractLog.{Logged}
use Rattle.model.specs.declared.{geometry.Geometry.Geometry, item.Note.Note, state.Entry.Entry, state.State.State}
use Rattle.history.proofs.Logs.{no_logged, at, last_of, body_of, last-ge, last-le}
use Rattle.history.proofs.Leaf.{frame-lsn, note-read}
use Rattle.history.proofs.Marks.{mark_at, NoteOk}
use Rattle.history.proofs.Entries.{entry_from}
use Rattle.history.proofs.Sections.{notes-high}
use Rattle.history.proofs.Disk.{Holds, Noted}
use Rattle.history.proofs.NoteScan.{note-count}
use Rattle.history.proofs.NoteIndex.{index_is}
use Rattle.history.proofs.LogScan.{durable-count}
use Rattle.history.proofs.Inv.{PendingOk}
use Rattle.history.proofs.Context.{Ctx, sized, len, few, body-size, entry-is, Found}
use Rattle.upkeep_theory.proofs.Shift.{MoreMarks}
use Rattle.upkeep_theory.proofs.Apart.{field-set, SameMarks}
use Rattle.upkeep_theory.proofs.Pages.{record-stands}
use Rattle.upkeep_theory.proofs.Quiet.{all-durable}
use Rattle.model.specs.Types.{Some}

-- ---- marks of the next states

pub marks-appended : (g : Geometry) (s : State) (p f : ℕ) → SameMarks g s (appended_state s p f)
unfolding appended_state
marks-appended g s p f =
    record {
      slot = λ q a b. field-set (λ (e : Entry). e.slot) s.index (p - 1) _ refl (q - 1);
      backup = λ q a b. field-set (λ (e : Entry). e.backup) s.index (p - 1) _ refl (q - 1);
      written = λ q a b. field-set (λ (e : Entry). e.written) s.index (p - 1) _ refl (q - 1);
    }

pub marks-forced : (g : Geometry) (s : State) (pages p : ℕ) → SameMarks g s (forced_state s pages p)
unfolding forced_state
marks-forced g s pages p = by_cases (within pages p)
    (λ t. rw t (record {
      slot = λ q a b. field-set (λ (e : Entry). e.slot) s.index (p - 1) _ refl (q - 1);
      backup = λ q a b. field-set (λ (e : Entry). e.backup) s.index (p - 1) _ refl (q - 1);
      written = λ q a b. field-set (λ (e : Entry). e.written) s.index (p - 1) _ refl (q - 1);
    }))
    (λ t. rw t (record { slot = λ q a b. refl; backup = λ q a b. refl; written = λ q a b. refl }))

module _ {C : Type 0} {g : Geometry} {v m : List ℕ} {past : List StoredItem} {s : State} {k w : List Logged}
    (x : Ctx C g v m past s k w) where
  -- the state that a Restart of a volume with the same notes gives
  pub marks-restart : (v' : List ℕ) (h : Holds g v' k) (o : Noted C g v' k x.ns) → SameMarks g s (restart_state v')
  unfolding restart_state
  marks-restart v' h o =
      let e : (p : ℕ) → 1 ≤ p → p ≤ g.pages
      → entry_of (index_of g v') p ≡ entry_from (last_of p k) (last_of p k) (mark_at p x.ns (length x.ns)) =
      λ p a b. (index_is g v' k h x.ns o).entry p a (omega (arith, (sized x).p-high)) in
      rw h.vol.geo (record {
        slot = λ p a b. ap (λ (y : Entry). y.slot) (e p a b) ∙ sym (ap (λ (y : Entry). y.slot) (entry-is x p a b));
        backup = λ p a b. ap (λ (y : Entry). y.backup) (e p a b)
            ∙ sym (ap (λ (y : Entry). y.backup) (entry-is x p a b));
        written = λ p a b. ap (λ (y : Entry). y.written) (e p a b)
            ∙ sym (ap (λ (y : Entry). y.written) (entry-is x p a b));
      })

  pub durable-restart : (v' : List ℕ) (h : Holds g v' k) (o : Noted C g v' k x.ns)
      → (restart_state v').durable ≡ s.durable
  unfolding restart_state
  durable-restart v' h o = rw h.vol.geo (durable-count g v' k h x.ns o ∙ sym x.al.log.durable-is)

  pub notes-restart : (v' : List ℕ) (h : Holds g v' k) (o : Noted C g v' k x.ns) → (restart_state v').notes ≡ s.notes
  unfolding restart_state
  notes-restart v' h o = rw h.vol.geo (note-count g v' k h x.ns o ∙ sym x.al.notes-is)

  -- ---- the owed note

  module _ (n : Note) (noting : s.note ≡ Some n) where
    noting-fits : PendingOk C g v k x.ns (Some n)
    noting-fits = rw noting at x.al.note-ok

    pub noting-ok : NoteOk g.pages g.slots k x.ns (length x.ns) n
    noting-ok = noting-fits.0

    pub noting-number : n.number ≡ suc s.notes
    noting-number = omega (arith, noting-ok.number_is, x.al.notes-is)

    pub noting-back : note_of (note_bytes n) ≡ n
    noting-back = note-read n (omega (arith, noting-ok.number_is, noting-fits.1, notes-high g (sized x)))
        (omega (arith, noting-ok.high, (sized x).p-high))
        (omega (arith, noting-ok.below, len x, few x))

    size : length s.index ≡ 64
    size = x.al.index.size

    entry_new : entry_of (noted_state s n).index n.page ≡ with_note (entry_of s.index n.page) n
    unfolding noted_state enter_note
    entry_new = get_or-set_same s.index (n.page - 1) (with_note (entry_of s.index n.page) n) empty_entry
        (omega (arith, noting-ok.high, noting-ok.low, (sized x).p-high, size))

    entry_old : (p : ℕ) → 1 ≤ p → p ≢ n.page → entry_of (noted_state s n).index p ≡ entry_of s.index p
    unfolding noted_state enter_note
    entry_old p lo ne =
        get_or-set_other s.index (n.page - 1) (p - 1) (with_note (entry_of s.index n.page) n) empty_entry
        (λ z. ne (omega (arith, noting-ok.low)))

    pub noted-slot : is_written n ≡ false → (entry_of (noted_state s n).index n.page).slot ≢ 0
    noted-slot t z =
        let e : (entry_of (noted_state s n).index n.page).slot ≡ n.slot =
        ap (λ (y : Entry). y.slot) entry_new ∙ rw t in
        omega (arith, (noting-ok.backed t).low)

    pub noted-backup : is_written n ≡ false → (entry_of (noted_state s n).index n.page).backup ≡ n.lsn
    noted-backup t = ap (λ (y : Entry). y.backup) entry_new ∙ rw t

    pub noted_more : MoreMarks g.pages s (noted_state s n)
    noted_more =
        record {
          slot = λ p a b nz. elim (ℕ_discrete p n.page) [
            | yes e ↦ rw e (by_cases (is_written n)
                (λ t z. nz (rw e (sym (ap (λ (y : Entry). y.slot) entry_new ∙ rw t) ∙ z))) (λ t. noted-slot t))
            | no e ↦ λ z. nz (sym (ap (λ (y : Entry). y.slot) (entry_old p a e)) ∙ z)
          ];
          backup = λ p a b. elim (ℕ_discrete p n.page) [
            | yes e ↦ rw e (by_cases (is_written n)
                (λ t. let q : (entry_of (noted_state s n).index n.page).backup ≡ (entry_of s.index n.page).backup =
                ap (λ (y : Entry). y.backup) entry_new ∙ rw t in omega arith)
                (λ t. omega (
                  arith,
                  noted-backup t,
                  (noting-ok.backed t).above,
                  ap (λ (y : Entry). y.backup) (entry-is x n.page noting-ok.low noting-ok.high),
                )))
            | no e ↦ omega (arith, ap (λ (y : Entry). y.backup) (entry_old p a e))
          ];
        }

    pub noted-wrote : (p : ℕ) → 1 ≤ p → p ≤ g.pages → (entry_of (noted_state s n).index p).written ≡ 0
        → (entry_of s.index p).written ≡ 0
    noted-wrote p a b z = elim (ℕ_discrete p n.page) [
      | yes e ↦ rw e (by_cases (is_written n)
          (λ t. let q : (entry_of (noted_state s n).index n.page).written ≡ n.lsn =
          ap (λ (y : Entry). y.written) entry_new ∙ rw t in
          let y : (entry_of (noted_state s n).index n.page).written ≡ 0 = rw e at z in
          absurd (omega (arith, noting-ok.some)))
          (λ t. let y : (entry_of (noted_state s n).index n.page).written ≡ 0 = rw e at z in
          sym (ap (λ (y : Entry). y.written) entry_new ∙ rw t) ∙ y))
      | no e ↦ sym (ap (λ (y : Entry). y.written) (entry_old p a e)) ∙ z
    ]

  -- ---- a page's frame, where nothing is pending: its number is at or above each record of the page

  module _ (quiet : s.pending ≡ 0) (p : ℕ) (f : Found x p) where
    pub frame-number : image_lsn (frame_bytes m (holder s p)) ≡ last_of p x.all
    frame-number = rw f.framed.frame_is (frame-lsn g p (last_of p x.all) (body_of p x.all)
        (omega (arith, f.framed.high, (sized x).p-high)) (omega (arith, few x, last-le p x.all (length x.all)))
        (body-size x p))

    pub frame-above : (j : ℕ) → s.durable ≤ j + g.records → suc j ≤ s.durable → (log_record g v (suc j)).page ≡ p
        → record_needed g v s (suc j) ≡ true → suc j ≤ image_lsn (frame_bytes m (holder s p))
    unfolding record_needed
    frame-above j a b e t =
        let en = entry_of s.index (log_record g v (suc j)).page in
        let sl : sealed 60 (item g v (log_slot g (suc j))) ≡ true =
        all-at (sealed 60 (item g v (log_slot g (suc j))) ∷ eqb (log_record g v (suc j)).lsn (suc j)
        ∷ not (within g.pages (log_record g v (suc j)).page && (not (eqb en.slot 0) && leb (suc j) en.backup))
        ∷ []) 0
        (rw (le-ltb s.durable (suc j) b) at t) in
        let jb : j < length k = omega (arith, x.al.log.durable-is) in
        let q : (at k j).page ≡ p = sym (record-stands x j b a sl) ∙ e in
        let same : (at x.all j).page ≡ p =
        rw x.al.log.split (ap (λ (y : Logged). y.page) (get_or-append k w no_logged j jb) ∙ q) in
        omega (arith, frame-number, last-ge p x.all (length x.all) j (omega (arith, all-durable x quiet)) same)
