-- In a machine that is on and keeps the invariant the state is well formed and the memory valid.
use mathlib.Core.Path.{◌≡◌, refl, sym, ap, ◌∙◌}
use mathlib.Core.Logic.{◌≢◌}
use mathlib.Core.Bool.{true, false, not, ◌&&◌}
use mathlib.Core.List.{List}
use Prim.Native.Nat.{ℕ, suc, ◌+◌, ◌-◌, ◌≤◌, ◌<◌}
use native.Mathlib.Omega.{arith}
use native.Mathlib.Decide.{dec_lt}
use lib.ListN.{length, get_or}
use lib.Dec.{eqb, ltb}
use borrow.Author.Tests.{eq-eqb, ne_eqb, eqb-true, eqb-false, le-leb, lt-ltb, le-ltb}
use Rattle.laws.proofs.Tables.{by_cases, and_both, or_left, or_right, every-all, within-holds}
use Rattle.model.specs.Tables.{within}
use Rattle.model.specs.Geometry.{most, most_notes, geometry_of, valid_volume}
use Rattle.model.specs.Item.{is_written, note_layout}
use Rattle.model.specs.Index.{empty_entry, entry_row, entry_of}
use Rattle.model.specs.State.{frame_count, valid_memory, frame_row, held, blank, last_number, pending_note_fits, frame_fits}
use Rattle.model.specs.State.{entry_fits, page_fits, well_formed}
use Rattle.model.specs.Outcome.{StoredItem}
use Rattle.model.specs.AbstractLog.{Logged}
use Rattle.model.specs.declared.{geometry.Geometry.Geometry, item.Note.Note}
use Rattle.model.specs.declared.state.State.{State}
use Rattle.history.proofs.Logs.{last_at, last_of, last-le, last-mono}
use Rattle.history.proofs.Marks.{mark_at, NoteOk, mark-ok, mark-past}
use Rattle.history.proofs.Entries.{entry_from}
use Rattle.history.proofs.Records.{last-past}
use Rattle.history.proofs.Inv.{PendingOk}
use Rattle.history.proofs.Memory.{frame-count, memory-valid}
use Rattle.history.proofs.Context.{Ctx, geo, len, sum, fair, last_entry, durable-last, nowhere}
use Rattle.model.specs.Types.{PendingNote, None, Some}

-- the layout of a note that may follow
pub layout-ok : (P B : ℕ) (l : List Logged) (ns : List Note) (n : ℕ) (y : Note) → NoteOk P B l ns n y → note_layout y ≡ true
unfolding note_layout
layout-ok P B l ns n y f = by_cases (is_written y)
    (λ t. or_left (eqb y.kind 2) (and_both t (eq-eqb y.slot 0 (f.written t).0)))
    (λ t. or_right (eqb y.kind 1 && eqb y.slot 0) (eq-eqb y.kind 2 (f.backed t).kind-is))

module _ {C : Type 0} {g : Geometry} {v m : List ℕ} {past : List StoredItem} {s : State} {k w : List Logged}
    (x : Ctx C g v m past s k w) where
  note-fits : (y : PendingNote) → PendingOk C g v k x.ns y → pending_note_fits g s.notes s.durable y ≡ true
  unfolding pending_note_fits
  note-fits None t = refl
  note-fits (Some y) t =
      let f = t.0 in
      and_both (lt-ltb s.notes (most_notes g) (omega (arith, t.1, x.al.notes-is)))
      (and_both (lt-ltb 0 g.notes t.3.0)
      (and_both (layout-ok g.pages g.slots k x.ns (length x.ns) y f)
      (and_both (eq-eqb y.number (s.notes + 1) (omega (arith, f.number_is, x.al.notes-is)))
      (and_both (within-holds g.pages y.page f.low f.high)
      (and_both
      (by_cases (is_written y) (λ z. or_left (within g.slots y.slot) z)
      (λ z. or_right (is_written y) (within-holds g.slots y.slot (f.backed z).low (f.backed z).high)))
      (le-leb y.lsn s.durable (omega (arith, f.below, x.al.log.durable-is))))))))

  -- ---- frames

  frame-fits : (i : ℕ) → i < 16 → frame_fits g x.al.F s i ≡ true
  unfolding frame_fits
  frame-fits i b = by_cases (eqb (frame_row s i).page 0)
      (λ t.
      let z : (frame_row s i).page ≡ 0 = eqb-true (frame_row s i).page 0 t in
      rw (t, x.al.frames.idle i b z, z) (and_both (le-leb 0 g.pages (omega arith)) (or_right (ltb i x.al.F) refl)))
      (λ t.
      let nz : (frame_row s i).page ≢ 0 = eqb-false (frame_row s i).page 0 t in
      let c : i < x.al.F = x.al.frames.inside i b nz in
      let f = x.al.frames.each i c nz in
      rw t
      (and_both (le-leb (frame_row s i).page g.pages f.high)
      (and_both (every-all (λ j. not (eqb (frame_row s j).page (frame_row s i).page)) i (λ j d. apart j c nz d))
      (and_both (filled f.low f.high f.some) (or_left false (lt-ltb i x.al.F c))))))
    where
      apart : (j : ℕ) → i < x.al.F → (frame_row s i).page ≢ 0 → j < i → not (eqb (frame_row s j).page (frame_row s i).page) ≡ true
      apart j c nz d = rw (ne_eqb (frame_row s j).page (frame_row s i).page (λ e.
          let q : j ≡ i = x.al.frames.once j i (omega arith) c (λ z. nz (sym e ∙ z)) e in omega arith))

      filled : 1 ≤ (frame_row s i).page → (frame_row s i).page ≤ g.pages → 1 ≤ last_of (frame_row s i).page x.all
          → not (blank s (frame_row s i).page) ≡ true
      filled lo hi some =
          rw (ne_eqb (entry_of s.index (frame_row s i).page).last 0 (λ z. omega (arith, last_entry x (frame_row s i).page lo hi)))

  -- ---- the index

  row_is : (i : ℕ) → i < 64 → entry_row s.index i ≡ entry_from (last_of (suc i) x.all) (last_at (suc i) x.all (length k))
      (mark_at (suc i) x.ns (length x.ns))
  row_is i b =
      let e : i ≡ suc i - 1 = omega arith in
      ap (λ (j : ℕ). get_or s.index j empty_entry) e ∙ x.al.index.entry (suc i) (omega arith) b

  entry-fits : (p : ℕ) → 1 ≤ p → p ≤ g.pages
      → entry_fits g s p (entry_from (last_of p x.all) (last_at p x.all (length k)) (mark_at p x.ns (length x.ns))) ≡ true
  unfolding entry_fits
  entry-fits p lo hi =
      let o = mark-ok g.pages g.slots k x.ns x.no.fit p (length x.ns) (omega arith) in
      let d : last_at p x.all (length k) ≡ last_of p k = durable-last x p lo hi in
      and_both (le-leb (last_of p x.all) (last_number s) (omega (arith, sum x, last-le p x.all (length x.all))))
      (and_both (le-leb (last_at p x.all (length k)) (last_of p x.all)
      (last-mono p x.all (length x.all) (length k) (omega (arith, len x))))
      (and_both (le-leb (last_at p x.all (length k)) s.durable (omega (arith, x.al.log.durable-is, last-le p x.all (length k))))
      (and_both (le-leb (mark_at p x.ns (length x.ns)).written (last_at p x.all (length k)) (omega (arith, o.wrote)))
      (and_both (le-leb (mark_at p x.ns (length x.ns)).backup (last_at p x.all (length k)) (omega (arith, o.backs)))
      (and_both (le-leb (mark_at p x.ns (length x.ns)).slot g.slots o.slots)
      (by_cases (held s p)
      (λ t. or_left (eqb (last_of p x.all) (last_at p x.all (length k))) t)
      (λ t. or_right (held s p)
      (eq-eqb (last_of p x.all) (last_at p x.all (length k)) (x.al.frames.away p lo hi (nowhere x p t))))))))))

  page-fits : (i : ℕ) → i < 64 → page_fits g s i ≡ true
  unfolding page_fits
  page-fits i b = rw (row_is i b) (elim (dec_lt i g.pages) [
    | yes y ↦ rw (lt-ltb i g.pages y) (entry-fits (suc i) (omega arith) y)
    | no z ↦
        rw (
          le-ltb i g.pages (omega arith),
          last-past g.pages (suc i) x.all (fair x) (omega arith) (length x.all) (omega arith),
          last-past g.pages (suc i) x.all (fair x) (omega arith) (length k) (omega (arith, len x)),
          mark-past g.pages g.slots k x.ns x.no.fit (suc i) (omega arith) (length x.ns) (omega arith),
        )
  ])

  pub well-formed : well_formed g x.al.F s ≡ true
  unfolding well_formed
  well-formed =
      and_both (le-leb (s.durable + s.pending) (most g) (omega (arith, sum x, x.al.log.room)))
      (and_both (le-leb s.pending 16 (omega (arith, x.al.log.few, x.al.log.pending-is)))
      (and_both (le-leb s.notes (most_notes g) (omega (arith, x.al.notes-is, x.no.few)))
      (and_both (note-fits s.note x.al.note-ok)
      (and_both (every-all (frame_fits g x.al.F s) 16 frame-fits) (every-all (page_fits g s) 64 page-fits)))))

  pub state-ok : well_formed (geometry_of v) (frame_count (length m)) s ≡ true
  state-ok = rw (geo x, frame-count x.al.F m x.al.memory) well-formed

  pub memory-ok : valid_memory (length m) ≡ true
  memory-ok = memory-valid x.al.F m x.al.memory

  pub volume-ok : valid_volume v ≡ true
  volume-ok = x.hs.vol.ok
